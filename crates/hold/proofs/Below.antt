-- What is said stays below the room that is seen; only a due text may pass it, by one byte. Assumes nothing.
use Rattle.std.proofs.Common.{◌≡◌, ℕ, zero, suc, ◌+◌, ◌-◌, ◌<◌, ◌≤◌, true, cond, not, ◌&&◌, ◌||◌, eqb, ltb, ◌⊎◌, List, [], ◌∷◌, length, take, drop, sym, refl, ap, ◌∙◌, subst, inl, inr, ⊎_elim, arith}
use mathlib.Core.List.Memᴰ
use mathlib.Core.List.{Memᴰ}
use Rattle.std.proofs.lemmas.Bool.Decides.{nat_tests as ways}
use Rattle.std.proofs.lemmas.Bool.{cases_Bool, cond_both}
use Rattle.hold.specs.Packet.{Settings, Packet, Kind, Ask, Yes, Text, Bye, bare, larger, lower}
use Rattle.hold.specs.Conn.{Conn, Phase, Asked, Half, Open, Gone, new, in_phase, open_with, hears, says, due}
use Rattle.hold.specs.World.{Who, L, R, End, World, Ev, Listens, Opens, Due, Gives, Closes, Takes, Sends, Breaks, Forgets, Hears, end, other, coming_to, put, changed, added, is_in, is_open, is_asked, by_tag, by_theirs, Found, NotThere, There, says_if, due_by, due_if, bye_if, on_ask, on_yes, on_text, on_bye, on_kind, hears_nth, step, world}
use Rattle.hold.specs.Promise.{At}
use Rattle.hold.specs.Extras.{Below, SaysBelow}
use Rattle.hold.proofs.Table.{by_tag_mem}

take_short : (n : ℕ) (xs : List ℕ) → length (take n xs) ≤ n
take_short zero xs = omega arith
take_short (suc n) [] = omega arith
take_short (suc n) (x ∷ xs) = omega (arith, take_short n xs)

minus_below : (a q i : ℕ) → i < a - q → q + i < a
minus_below a q i l = omega (arith, l)

lower_right : (k n : ℕ) → lower k n ≤ n
lower_right k n = grind (arith, ways)

says_below : (cfg : Settings) (q k : ℕ) (c : Conn) → Below c.sees (says cfg q k c)
says_below cfg q k c i l = minus_below c.sees q i (omega (arith, l, take_short (lower k (c.sees - q)) (drop q c.given), lower_right k (c.sees - q)))

larger_cases : (n : ℕ) → (larger 1 n ≡ n) ⊎ (larger 1 n ≡ 1)
larger_cases n = ⊎_elim (λ h. inl (grind (arith, ways))) (λ h. inr (grind (arith, ways))) (cases_Bool (ltb 1 n))

due_below : (cfg : Settings) (c : Conn) → Below c.sees (due cfg c) ⊎ (length (due cfg c).text ≡ 1)
due_below cfg c = ⊎_elim (λ e. inl (λ i l. minus_below c.sees c.upto i (omega (arith, l, short, e, lower_right cfg.size (c.sees - c.upto))))) (λ e. few e (length (due cfg c).text) refl) (larger_cases (lower cfg.size (c.sees - c.upto)))
  where
    short : length (due cfg c).text ≤ larger 1 (lower cfg.size (c.sees - c.upto))
    short = take_short (larger 1 (lower cfg.size (c.sees - c.upto))) (drop c.upto c.given)

    few : larger 1 (lower cfg.size (c.sees - c.upto)) ≡ 1 → (n : ℕ) → length (due cfg c).text ≡ n → Below c.sees (due cfg c) ⊎ (length (due cfg c).text ≡ 1)
    few e zero h = inl (λ i l. absurd (omega (arith, l, h)))
    few e (suc n) h = inr (omega (arith, e, h, short))

-- what is new after a move, of what o sends
coming_cases : (q o : Who) (e : End) (ps : List Packet) (ts : List ℕ) (w : World) (p : Packet) → Memᴰ p (coming_to (other o) (put q e ps ts w)) → Memᴰ p (coming_to (other o) w) ⊎ ((q ≡ o) × Memᴰ p ps)
coming_cases L L e ps ts w p m = ⊎_elim (λ n. inr (refl, n)) inl (Memᴰ.append_cases ps m)
coming_cases L R e ps ts w p m = inl m
coming_cases R L e ps ts w p m = inl m
coming_cases R R e ps ts w p m = ⊎_elim (λ n. inr (refl, n)) inl (Memᴰ.append_cases ps m)

abbrev Newly : Settings → World → Who → Packet → Type 0
Newly cfg w o p = (c : Conn) × At o w c × (is_open c.phase ≡ true) × (p.from ≡ c.mine) × (p.to ≡ c.theirs) × (Below c.sees p ⊎ (p ≡ due cfg c))

module _ (cfg : Settings) (w : World) (o : Who) (p : Packet) (k : p.kind ≡ Text) where
  -- what is new in a world is said so
  abbrev New : World → Type 0
  New v = Memᴰ p (coming_to (other o) v) → Memᴰ p (coming_to (other o) w) ⊎ Newly cfg w o p

  quiet : (q : Who) (e : End) (ps : List Packet) (ts : List ℕ) → ((r : Packet) → Memᴰ r ps → r.kind ≡ Text → ⊥) → New (put q e ps ts w)
  quiet q e ps ts g m = ⊎_elim inl (λ (_, n). absurd (g p n k)) (coming_cases q o e ps ts w p m)

  silent : (q : Who) (e : End) → New (put q e [] [] w)
  silent q e = quiet q e [] [] (λ _ n. absurd (Memᴰ.not-nil n))

  other_kind : (q : Who) (e : End) (r : Packet) (ts : List ℕ) → (r.kind ≡ Text → ⊥) → New (put q e (r ∷ []) ts w)
  other_kind q e r ts g = quiet q e (r ∷ []) ts (λ x n h. g (ap (λ z. z.kind) (sym (Memᴰ.eq_of_singleton n)) ∙ h))

  ask_text : Ask ≡ Text → ⊥
  ask_text h = let z : ◌≡◌ {A = ℕ} 0 1 = cc in omega arith

  yes_text : Yes ≡ Text → ⊥
  yes_text h = let z : ◌≡◌ {A = ℕ} 0 1 = cc in omega arith

  bye_text : Bye ≡ Text → ⊥
  bye_text h = let z : ◌≡◌ {A = ℕ} 0 1 = cc in omega arith

  due-new : (q : Who) (c : Conn) → At q w c → (h : Phase) → c.phase ≡ h → q ≡ o → Memᴰ p (due_by cfg c h) → Newly cfg w o p
  due-new q c m Asked e z n = absurd (ask_text (ap (λ r. r.kind) (sym (Memᴰ.eq_of_singleton n)) ∙ k))
  due-new q c m Half e z n = absurd (yes_text (ap (λ r. r.kind) (sym (Memᴰ.eq_of_singleton n)) ∙ k))
  due-new q c m Open e z n = let i = Memᴰ.eq_of_singleton n in (c, subst (λ y. At y w c) z m, ap is_open e, ap (λ r. r.from) i, ap (λ r. r.to) i, inr i)
  due-new q c m Gone e z n = absurd (Memᴰ.not-nil n)

  due-found : (q : Who) (t : ℕ) (f : Found) → by_tag t (end q w).conns ≡ f → q ≡ o → Memᴰ p (due_if cfg f) → Newly cfg w o p
  due-found q t NotThere e z n = absurd (Memᴰ.not-nil n)
  due-found q t (There c) e z n = due-new q c (by_tag_mem _ _ c e).0 c.phase refl z n

  says-found : (q : Who) (t a b : ℕ) (f : Found) → by_tag t (end q w).conns ≡ f → q ≡ o → Memᴰ p (says_if cfg a b f) → Newly cfg w o p
  says-found q t a b NotThere e z = λ n. absurd (Memᴰ.not-nil n)
  says-found q t a b (There c) e z = cond_both (is_open c.phase) (says cfg a b c ∷ []) [] (λ ps. Memᴰ p ps → Newly cfg w o p)
      (λ h n. let i = Memᴰ.eq_of_singleton n in (c, subst (λ y. At y w c) z (by_tag_mem _ _ c e).0, h, ap (λ r. r.from) i, ap (λ r. r.to) i, inl (subst (Below c.sees) (sym i) (says_below cfg a b c)))) (λ _ n. absurd (Memᴰ.not-nil n))

  bye_found : (f : Found) (r : Packet) → Memᴰ r (bye_if f) → r.kind ≡ Text → ⊥
  bye_found NotThere r = λ n. absurd (Memᴰ.not-nil n)
  bye_found (There c) r = cond_both (is_asked c.phase) [] (bare Bye c.mine c.theirs ∷ []) (λ ps. Memᴰ r ps → r.kind ≡ Text → ⊥)
      (λ _ n. absurd (Memᴰ.not-nil n)) (λ _ n h. bye_text (ap (λ z. z.kind) (sym (Memᴰ.eq_of_singleton n)) ∙ h))

  kind_new : (q : Who) (r : Packet) (t : ℕ) (h : Kind) → New (on_kind cfg q r t h w)
  kind_new q r t Ask = go (by_theirs r.from (end q w).conns)
    where
      go : (f : Found) → New (on_ask q r t f w)
      go (There c) = other_kind q (end q w) (bare Yes c.mine c.theirs) [] yes_text
      go NotThere = cond_both ((end q w).listens && (not (is_in t w.drawn) && not (eqb t 0))) (put q (added (new Half t r.from) (end q w)) (bare Yes t r.from ∷ []) (t ∷ []) w) w New
          (λ _. other_kind q (added (new Half t r.from) (end q w)) (bare Yes t r.from) (t ∷ []) yes_text) (λ _ m. inl m)
  kind_new q r t Yes = go (by_tag r.to (end q w).conns)
    where
      bye_back : New (put q (end q w) (bare Bye r.to r.from ∷ []) [] w)
      bye_back = other_kind q (end q w) (bare Bye r.to r.from) [] bye_text

      go : (f : Found) → New (on_yes q r f w)
      go NotThere = bye_back
      go (There c) = cond_both (is_asked c.phase) (put q (changed c.mine (open_with r.from) (end q w)) [] [] w) (cond (eqb c.theirs r.from) w (put q (end q w) (bare Bye r.to r.from ∷ []) [] w)) New
          (λ _. silent q (changed c.mine (open_with r.from) (end q w))) (λ _. cond_both (eqb c.theirs r.from) w (put q (end q w) (bare Bye r.to r.from ∷ []) [] w) New (λ _ m. inl m) (λ _. bye_back))
  kind_new q r t Text = go (by_tag r.to (end q w).conns)
    where
      go : (f : Found) → New (on_text cfg q r f w)
      go NotThere = other_kind q (end q w) (bare Bye r.to r.from) [] bye_text
      go (There c) = cond_both (not (is_asked c.phase) && eqb c.theirs r.from) (put q (changed c.mine (λ d. hears cfg r (open_with r.from d)) (end q w)) [] [] w) w New
          (λ _. silent q (changed c.mine (λ d. hears cfg r (open_with r.from d)) (end q w))) (λ _ m. inl m)
  kind_new q r t Bye = go (by_tag r.to (end q w).conns)
    where
      go : (f : Found) → New (on_bye q r f w)
      go NotThere = λ m. inl m
      go (There c) = cond_both (not (is_asked c.phase) && eqb c.theirs r.from) (put q (changed c.mine (in_phase Gone) (end q w)) [] [] w) w New
          (λ _. silent q (changed c.mine (in_phase Gone) (end q w))) (λ _ m. inl m)

  nth_new : (q : Who) (i t : ℕ) (ps : List Packet) → New (hears_nth cfg q i t ps w)
  unfolding hears_nth
  nth_new q i t [] m = inl m
  nth_new q zero t (r ∷ ps) m = kind_new q r t r.kind m
  nth_new q (suc i) t (r ∷ ps) m = nth_new q i t ps m

  step-new : (e : Ev) → New (step cfg e w)
  step-new (Listens q b) = silent q _
  step-new (Opens q t) = cond_both (is_in t w.drawn || eqb t 0) w (put q (added (new Asked t 0) (end q w)) (bare Ask t 0 ∷ []) (t ∷ []) w) New (λ _ m. inl m) (λ _. other_kind q (added (new Asked t 0) (end q w)) (bare Ask t 0) (t ∷ []) ask_text)
  step-new (Due q t) = λ m. ⊎_elim inl (λ (z, n). inr (due-found q t _ refl z n)) (coming_cases q o _ _ [] w p m)
  step-new (Gives q t bs) = silent q _
  step-new (Closes q t) = silent q _
  step-new (Takes q t n) = silent q _
  step-new (Sends q t a b) = λ m. ⊎_elim inl (λ (z, n). inr (says-found q t a b _ refl z n)) (coming_cases q o _ _ [] w p m)
  step-new (Breaks q t) = quiet q _ _ [] (bye_found (by_tag t (end q w).conns))
  step-new (Forgets q t) = silent q _
  step-new (Hears q i t) = nth_new q i t (coming_to q w)

pub says_so : SaysBelow
unfolding world
says_so = (says_below, due_below, λ cfg es e o p m k. step-new cfg (world cfg es) o p k e m)
