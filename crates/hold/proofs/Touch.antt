-- What a bye and a text touch, and what a break sends. Assumes nothing.
use Rattle.std.proofs.Common.{◌≡◌, ℕ, Bool, true, false, cond, not, ◌&&◌, eqb, ◌⊎◌, List, [], ◌∷◌, ◌++◌, sym, refl, ap, ◌∙◌, subst, inl, inr, ⊎_elim, arith}
use mathlib.Core.List.Memᴰ
use mathlib.Core.List.{Memᴰ}
use Rattle.std.proofs.lemmas.Bool.{cond_both, cond-false, and_parts, and_from, eqb-true, eq-eqb, not-true}
use Rattle.hold.specs.Packet.{Settings, Packet, Bye, bare}
use Rattle.hold.specs.Conn.{Conn, Phase, Gone, in_phase, open_with, hears}
use Rattle.hold.specs.World.{Who, World, Ev, Breaks, end, other, coming_to, put, changed, change, gone, is_asked, by_tag, Found, NotThere, There, bye_if, on_text, on_bye, on_kind, step, world}
use Rattle.hold.specs.Promise.{At, tags, apart, lives}
use Rattle.hold.specs.Extras.{Fits, Touches, ByeExact, TextExact}
use Rattle.hold.proofs.Bricks.{false_true}
use Rattle.hold.proofs.Table.{by_tag_mem, by_tag-finds}
use Rattle.hold.proofs.Puts.{end-put, end_put', coming-put}
use Rattle.hold.proofs.Inv.{inv, apart-at}

-- a change at a tag, where x is found, changes x alone
found_stays : (t : ℕ) (f : Conn → Conn) (cs : List Conn) (x c : Conn) → by_tag t cs ≡ There x → Memᴰ c cs → Memᴰ c (change t f cs) ⊎ (c ≡ x)
unfolding by_tag change
found_stays t f [] x c e m = inl m
found_stays t f (y ∷ ys) x c e m = go (eqb y.mine t && not (gone y.phase)) e (λ k n. found_stays t f ys x c k n)
  where
    go : (b : Bool) → cond b (There y) (by_tag t ys) ≡ There x → (by_tag t ys ≡ There x → Memᴰ c ys → Memᴰ c (change t f ys) ⊎ (c ≡ x)) → Memᴰ c (cond b (f y ∷ ys) (y ∷ change t f ys)) ⊎ (c ≡ x)
    go true k r = let q : y ≡ x = cc in ⊎_elim (λ h. inr (h ∙ q)) (λ n. inl (Memᴰ.tail n)) (Memᴰ.cases_cons m)
    go false k r = ⊎_elim (λ h. inl (Memᴰ.head h)) (λ n. ⊎_elim (λ z. inl (Memᴰ.tail z)) inr (r k n)) (Memᴰ.cases_cons m)

found-only : (t : ℕ) (f : Conn → Conn) (cs : List Conn) (x c : Conn) → by_tag t cs ≡ There x → Memᴰ c (change t f cs) → Memᴰ c cs ⊎ (c ≡ f x)
unfolding by_tag change
found-only t f [] x c e m = inl m
found-only t f (y ∷ ys) x c e m = go (eqb y.mine t && not (gone y.phase)) e m (λ k n. found-only t f ys x c k n)
  where
    go : (b : Bool) → cond b (There y) (by_tag t ys) ≡ There x → Memᴰ c (cond b (f y ∷ ys) (y ∷ change t f ys)) → (by_tag t ys ≡ There x → Memᴰ c (change t f ys) → Memᴰ c ys ⊎ (c ≡ f x)) → Memᴰ c (y ∷ ys) ⊎ (c ≡ f x)
    go true k n r = let q : y ≡ x = cc in ⊎_elim (λ h. inr (h ∙ ap f q)) (λ n. inl (Memᴰ.tail n)) (Memᴰ.cases_cons n)
    go false k n r = ⊎_elim (λ h. inl (Memᴰ.head h)) (λ n. ⊎_elim (λ z. inl (Memᴰ.tail z)) inr (r k n)) (Memᴰ.cases_cons n)

found_there : (t : ℕ) (f : Conn → Conn) (cs : List Conn) (x : Conn) → by_tag t cs ≡ There x → Memᴰ (f x) (change t f cs)
unfolding by_tag change
found_there t f [] x e = absurd (let z : ◌≡◌ {A = ℕ} 0 1 = cc in omega arith)
found_there t f (y ∷ ys) x e = go (eqb y.mine t && not (gone y.phase)) e (λ k. found_there t f ys x k)
  where
    go : (b : Bool) → cond b (There y) (by_tag t ys) ≡ There x → (by_tag t ys ≡ There x → Memᴰ (f x) (change t f ys)) → Memᴰ (f x) (cond b (f y ∷ ys) (y ∷ change t f ys))
    go true k r = let q : x ≡ y = cc in Memᴰ.head (ap f q)
    go false k r = Memᴰ.tail (r k)

pub lives-not : (h : Phase) → lives h ≡ true → (gone h ≡ false) × (is_asked h ≡ false)
lives-not h e = grind arith

not-lives : (h : Phase) → gone h ≡ false → is_asked h ≡ false → lives h ≡ true
not-lives h g a = grind arith

module _ (o : Who) (p : Packet) (f : Conn → Conn) (w : World) where
  fit_found : apart (tags (end o w).conns) ≡ true → (c : Conn) → At o w c → Fits p c → by_tag p.to (end o w).conns ≡ There c
  fit_found a c m k = ap (λ t. by_tag t (end o w).conns) (sym k.to) ∙ by_tag-finds _ c a m (lives-not _ k.alive).0

  untouched : (v : World) → end o v ≡ end o w → end (other o) v ≡ end (other o) w → ((c : Conn) → by_tag p.to (end o w).conns ≡ There c → Fits p c → ⊥) → Touches o p f w v
  untouched v e g n = record {
    stays = λ c m. inl (subst (λ z. Memᴰ c z.conns) (sym e) m);
    only = λ x m. inl (subst (λ z. Memᴰ x z.conns) e m);
    does = λ a c m k. absurd (n c (fit_found a c m k) k);
    listens = ap (λ z. z.listens) e;
    far = g;
  }

  touched : (x : Conn) → by_tag p.to (end o w).conns ≡ There x → Fits p x → Touches o p f w (put o (changed x.mine f (end o w)) [] [] w)
  touched x e k = record {
    stays = λ c m. ⊎_elim (λ n. inl (to_v n)) (λ q. inr (rw q k, to_v (rw q there))) (found_stays x.mine f _ x c e' m);
    only = λ c m. ⊎_elim inl (λ q. inr (x, (by_tag_mem _ _ x e).0, k, q)) (found-only x.mine f _ x c e' (subst (λ z. Memᴰ c z.conns) (end-put o (changed x.mine f (end o w)) [] [] w) m));
    does = λ a c m l. let q : c ≡ x = cc (fit_found a c m l) in to_v (rw q there);
    listens = ap (λ z. z.listens) (end-put o (changed x.mine f (end o w)) [] [] w);
    far = end_put' o (changed x.mine f (end o w)) [] [] w;
  }
    where
      e' : by_tag x.mine (end o w).conns ≡ There x
      e' = ap (λ t. by_tag t (end o w).conns) k.to ∙ e

      there : Memᴰ (f x) (change x.mine f (end o w).conns)
      there = found_there x.mine f _ x e'

      to_v : {c : Conn} → Memᴰ c (change x.mine f (end o w).conns) → At o (put o (changed x.mine f (end o w)) [] [] w) c
      to_v {c} m = subst (λ z. Memᴰ c z.conns) (sym (end-put o (changed x.mine f (end o w)) [] [] w)) m

  same : ((c : Conn) → by_tag p.to (end o w).conns ≡ There c → Fits p c → ⊥) → Touches o p f w w
  same n = untouched w refl refl n

  nobody : by_tag p.to (end o w).conns ≡ NotThere → (c : Conn) → by_tag p.to (end o w).conns ≡ There c → Fits p c → ⊥
  nobody e c k _ = let z : ◌≡◌ {A = ℕ} 0 1 = cc in omega arith

  fits : (x : Conn) → by_tag p.to (end o w).conns ≡ There x → (not (is_asked x.phase) && eqb x.theirs p.from) ≡ true → Fits p x
  fits x e h = let (m, q, g) = by_tag_mem _ _ x e in let (a, b) = and_parts _ _ h in record { alive = not-lives _ g (not-true _ a); to = q; from = eqb-true _ _ b }

  misfits : (x : Conn) → by_tag p.to (end o w).conns ≡ There x → (not (is_asked x.phase) && eqb x.theirs p.from) ≡ false → (c : Conn) → by_tag p.to (end o w).conns ≡ There c → Fits p c → ⊥
  misfits x e h c k l = let q : c ≡ x = cc in false_true _ h (subst (λ z. (not (is_asked z.phase) && eqb z.theirs p.from) ≡ true) q (and_from _ _ (ap not (lives-not _ l.alive).1) (eq-eqb _ _ l.from)))

  either : (x : Conn) → by_tag p.to (end o w).conns ≡ There x → Touches o p f w (cond (not (is_asked x.phase) && eqb x.theirs p.from) (put o (changed x.mine f (end o w)) [] [] w) w)
  either x e = cond_both (not (is_asked x.phase) && eqb x.theirs p.from) (put o (changed x.mine f (end o w)) [] [] w) w (Touches o p f w) (λ h. touched x e (fits x e h)) (λ h. same (misfits x e h))

module _ (cfg : Settings) (o : Who) (p : Packet) (t : ℕ) (w : World) where
  on_bye_lem : (g : Found) → by_tag p.to (end o w).conns ≡ g → Touches o p (in_phase Gone) w (on_bye o p g w)
  on_bye_lem NotThere e = same o p (in_phase Gone) w (nobody o p (in_phase Gone) w e)
  on_bye_lem (There x) e = either o p (in_phase Gone) w x e

  bye_quiet : (g : Found) → coming_to (other o) (on_bye o p g w) ≡ coming_to (other o) w
  bye_quiet NotThere = refl
  bye_quiet (There x) = cond_both (not (is_asked x.phase) && eqb x.theirs p.from) (put o (changed x.mine (in_phase Gone) (end o w)) [] [] w) w (λ v. coming_to (other o) v ≡ coming_to (other o) w)
      (λ _. coming-put o (changed x.mine (in_phase Gone) (end o w)) [] [] w) (λ _. refl)

  on_text_lem : (g : Found) → by_tag p.to (end o w).conns ≡ g → Touches o p (λ c. hears cfg p (open_with p.from c)) w (on_text cfg o p g w)
  on_text_lem NotThere e = untouched o p (λ c. hears cfg p (open_with p.from c)) w (put o (end o w) (bare Bye p.to p.from ∷ []) [] w) (end-put o (end o w) (bare Bye p.to p.from ∷ []) [] w) (end_put' o (end o w) (bare Bye p.to p.from ∷ []) [] w)
      (nobody o p (λ c. hears cfg p (open_with p.from c)) w e)
  on_text_lem (There x) e = either o p (λ c. hears cfg p (open_with p.from c)) w x e

-- a break
breaks : (cfg : Settings) (es : List Ev) (o : Who) (c : Conn) → At o (world cfg es) c → lives c.phase ≡ true → coming_to (other o) (step cfg (Breaks o c.mine) (world cfg es)) ≡ bare Bye c.mine c.theirs ∷ coming_to (other o) (world cfg es)
breaks cfg es o c m l = coming-put o (changed c.mine (in_phase Gone) (end o (world cfg es))) (bye_if (by_tag c.mine (end o (world cfg es)).conns)) [] (world cfg es) ∙
    ap (λ z. bye_if z ++ coming_to (other o) (world cfg es)) (by_tag-finds _ c (apart-at _ (inv cfg es).tagged o) m (lives-not _ l).0) ∙ ap (λ z. z ++ coming_to (other o) (world cfg es)) (cond-false _ _ _ (lives-not _ l).1)

pub bye_exact : ByeExact
bye_exact = (λ cfg p t w o k. subst (λ z. Touches o p (in_phase Gone) w (on_kind cfg o p t z w) × (coming_to (other o) (on_kind cfg o p t z w) ≡ coming_to (other o) w)) (sym k) (on_bye_lem cfg o p t w _ refl, bye_quiet cfg o p t w (by_tag p.to (end o w).conns)), breaks)

pub text_exact : TextExact
text_exact cfg p t w o k = subst (λ z. Touches o p (λ c. hears cfg p (open_with p.from c)) w (on_kind cfg o p t z w)) (sym k) (on_text_lem cfg o p t w _ refl)
