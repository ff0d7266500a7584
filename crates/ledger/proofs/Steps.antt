-- Each step of an end keeps its accounts true, once a look is taken.
use Rattle.std.proofs.Common.{◌≡◌, ℕ, ◌-◌, ◌≤◌, min, Bool, true, false, cond, not, ◌&&◌, ◌||◌, eqb, List, [], ◌∷◌, map, length, take, drop, sym, refl, ap, ◌∙◌, subst, ⊎_elim, append-nil, arith}
use mathlib.Core.List.{Memᴰ}
use Rattle.std.proofs.lemmas.Bool.Decides.{nat_tests}
use Rattle.std.proofs.lemmas.Bool.{and_from, eq-eqb, cases_Bool, cond_both, cond-true, or_left, or_right}
use Rattle.hold.specs.Packet.{Settings, Packet, Kind, Ask, Yes, Text, Bye, bare}
use Rattle.hold.specs.Conn.{Conn, Phase, Half, Gone, new, in_phase, open_with, gives, closes, takes, heard, hears, turn}
use Rattle.hold.specs.World.{Who, L, R, End, World, Ev, end, put, changed, added, change, gone, is_open, is_asked, by_tag, by_theirs, Found, NotThere, There, is_in, on_ask, on_yes, on_text, on_bye, on_kind, world}
use Rattle.hold.specs.Promise.{At, tags, apart}
use Rattle.hold.proofs.Bricks.{false_true}
use Rattle.hold.proofs.Table.{mem_tags, by_tag_mem, mem_change, Changed, tags-change, is_in_app}
use Rattle.hold.proofs.Puts.{end-put}
use Rattle.hold.proofs.Inv.{inv, apart-at, TagInv}
use Rattle.ledger.specs.Sentence.{Account}
use Rattle.ledger.specs.Tells.{Tell, looked, begun, with_new, gave, took}
use Rattle.ledger.proofs.Looks.{look-same, look-new, look-turn, look-gone, look-gave, look-took, Turns}

-- whoever is open was opened
abbrev Opens : Conn → Type 0
Opens c = is_open c.phase ≡ true → c.opened ≡ true

-- what is known of the table of an end in a run
pub record Sound (cs : List Conn) (drawn : List ℕ) : Type 0 where
  pub one : apart (tags cs) ≡ true
  pub opens : (c : Conn) → Memᴰ c cs → is_open c.phase ≡ true → c.opened ≡ true
  pub known : (t : ℕ) → is_in t (tags cs) ≡ true → is_in t drawn ≡ true
  pub few : (c : Conn) → Memᴰ c cs → c.taken ≤ length c.got

-- what is so of each of a changed table
change_all : (P : Conn → Type 0) (cs : List Conn) (t : ℕ) (f : Conn → Conn) → ((c : Conn) → Memᴰ c cs → P c) → ((c : Conn) → Memᴰ c cs → c.mine ≡ t → gone c.phase ≡ false → P (f c)) → (c : Conn) → Memᴰ c (change t f cs) → P c
change_all P cs t f all g c m = ⊎_elim (all c) edited (mem_change t f cs c m)
  where
    edited : Changed t f cs c → P c
    edited (d, n, q, l, e) = subst P (sym e) (g d n q l)

known_at : (w : World) → TagInv w → (o : Who) (t : ℕ) → is_in t (tags (end o w).conns) ≡ true → is_in t w.drawn ≡ true
known_at w i L t h = i.drawn_all t (is_in_app t (tags w.left.conns) (tags w.right.conns) ∙ or_left _ _ h)
known_at w i R t h = i.drawn_all t (is_in_app t (tags w.left.conns) (tags w.right.conns) ∙ or_right _ _ h)

pub sound : (cfg : Settings) (es : List Ev) (o : Who) → Sound (end o (world cfg es)).conns (world cfg es).drawn
sound cfg es o = record { one = apart-at _ (inv cfg es).tagged o; opens = λ c m. ((inv cfg es).linked o c m).open_opened; known = known_at _ (inv cfg es).tagged o; few = λ c m. ((inv cfg es).linked o c m).local.taken_got }

or_so : (b : Bool) (h : Phase) → (is_open h ≡ true → b ≡ true) → (b || is_open h) ≡ b
or_so b h k = grind (arith, nat_tests)

by_tag-front : (t u : ℕ) (cs : List Conn) → by_tag t (new Half t u ∷ cs) ≡ There (new Half t u)
unfolding by_tag
by_tag-front t u cs = cond-true (eqb t t && true) (There (new Half t u)) (by_tag t cs) (and_from _ _ (eq-eqb t t refl) refl)

-- no tag is lost
abbrev pub Wider : Who → World → World → Type 0
Wider o w v = (u : ℕ) → is_in u (tags (end o w).conns) ≡ true → is_in u (tags (end o v).conns) ≡ true

pub in_new : (u : ℕ) (c : Conn) (cs : List Conn) → is_in u (tags cs) ≡ true → is_in u (tags (c ∷ cs)) ≡ true
unfolding tags is_in
in_new u c cs h = or_right (eqb c.mine u) _ h

-- all accounts after a look at an end
abbrev pub After : Who → World → List Account → Type 0
After o w bs = Tell (looked (end o w).conns bs) (end o w).conns

after-put : (o : Who) (e : End) (ps : List Packet) (ts : List ℕ) (w : World) (bs : List Account) → Tell (looked e.conns bs) e.conns → After o (put o e ps ts w) bs
after-put o e ps ts w bs r = subst (λ z. Tell (looked z.conns bs) z.conns) (sym (end-put o e ps ts w)) r

module _ (o : Who) (w : World) (s : Sound (end o w).conns w.drawn) (bs : List Account) (r : Tell bs (end o w).conns) where
  pub after_same : (ps : List Packet) → After o (put o (end o w) ps [] w) bs
  after_same ps = after-put o (end o w) ps [] w bs (look-same _ s.one s.opens bs r)

  pub after-new : (h : Phase) (t u : ℕ) (ps : List Packet) → gone h ≡ false → is_open h ≡ false → is_in t w.drawn ≡ false → After o (put o (added (new h t u) (end o w)) ps (t ∷ []) w) (begun t ∷ bs)
  unfolding apart
  after-new h t u ps g n f = after-put o (added (new h t u) (end o w)) ps (t ∷ []) w (begun t ∷ bs) (look-new _ h t u g n (and_from _ _ (ap not fresh) s.one) s.opens bs r)
    where
      fresh : is_in t (tags (end o w).conns) ≡ false
      fresh = ⊎_elim (λ k. false_true _ f (s.known t k)) (λ k. k) (cases_Bool (is_in t (tags (end o w).conns)))

  pub after_turn : (t : ℕ) (f : Conn → Conn) → ((c : Conn) → (f c).mine ≡ c.mine) → ((c : Conn) → At o w c → c.mine ≡ t → gone c.phase ≡ false → Turns c (f c)) → After o (put o (changed t f (end o w)) [] [] w) bs
  after_turn t f keeps turns = after-put o (changed t f (end o w)) [] [] w bs (look-turn _ t f s.one keeps (change_all Opens _ t f s.opens (λ c m e g h. sym (turns c m e g).opened ∙ or_right _ _ h)) turns bs r)

  pub after-gone : (t : ℕ) (ps : List Packet) → After o (put o (changed t (in_phase Gone) (end o w)) ps [] w) bs
  after-gone t ps = after-put o (changed t (in_phase Gone) (end o w)) ps [] w bs (look-gone _ t s.one (change_all Opens _ t (in_phase Gone) s.opens (λ c m e g h. false_true _ refl h)) bs r)

  pub after-gave : (t : ℕ) (x : Conn) (gs : List ℕ) → by_tag t (end o w).conns ≡ There x → x.closed ≡ false → After o (put o (changed t (gives gs) (end o w)) [] [] w) (map (gave t gs) bs)
  after-gave t x gs f c = after-put o (changed t (gives gs) (end o w)) [] [] w (map (gave t gs) bs) (look-gave _ t x s.one f gs c (change_all Opens _ t (gives gs) s.opens (λ d m _ _ h. s.opens d m h)) bs r)

  pub after-took : (t : ℕ) (x : Conn) (k n : ℕ) → by_tag t (end o w).conns ≡ There x → n ≡ min k (length x.got - x.taken) → After o (put o (changed t (takes k) (end o w)) [] [] w) (map (took t (take n (drop x.taken x.got))) bs)
  after-took t x k n f c = after-put o (changed t (takes k) (end o w)) [] [] w (map (took t (take n (drop x.taken x.got))) bs)
      (look-took _ t x s.one f k n c (s.few x (by_tag_mem t _ x f).0) (change_all Opens _ t (takes k) s.opens (λ d m _ _ h. s.opens d m h)) bs r)

  pub after-close : (t : ℕ) → After o (put o (changed t closes (end o w)) [] [] w) bs
  after-close t = after_turn t closes (λ _. refl) (λ c m e g. record { mine = refl; given = refl; more = []; got = append-nil c.got; taken = refl; lives = g; opened = or_so c.opened c.phase (s.opens c m) })

  -- a packet heard, with a tag that was never drawn before
  module _ (cfg : Settings) (p : Packet) (t : ℕ) (f : is_in t w.drawn ≡ false) where
    fresh : is_in t (tags (end o w).conns) ≡ false
    fresh = ⊎_elim (λ k. false_true _ f (s.known t k)) (λ k. k) (cases_Bool (is_in t (tags (end o w).conns)))

    unknown : (cs : List Conn) → is_in t (tags cs) ≡ false → by_tag t cs ≡ NotThere
    unknown cs e = go (by_tag t cs) refl
      where
        go : (z : Found) → by_tag t cs ≡ z → by_tag t cs ≡ NotThere
        go NotThere q = q
        go (There c) q = let (m, u, _) = by_tag_mem t cs c q in false_true _ e (ap (λ v. is_in v (tags cs)) (sym u) ∙ mem_tags cs c m)

    -- all accounts after a look, with one more if there is a connection more; and no tag is lost
    abbrev pub Heard : World → Type 0
    Heard v = After o v (with_new t (by_tag t (end o v).conns) bs) × Wider o w v

    none_new : (v : World) → tags (end o v).conns ≡ tags (end o w).conns → After o v bs → Heard v
    none_new v e a = (subst (λ z. After o v (with_new t z bs)) (sym (unknown (end o v).conns (ap (is_in t) e ∙ fresh))) a, λ u h. ap (is_in u) e ∙ h)

    says-only : (ps : List Packet) → Heard (put o (end o w) ps [] w)
    says-only ps = none_new (put o (end o w) ps [] w) (ap (λ e. tags e.conns) (end-put o (end o w) ps [] w)) (after_same ps)

    nothing : Heard w
    nothing = none_new w refl (look-same _ s.one s.opens bs r)

    changes : (u : ℕ) (g : Conn → Conn) → ((c : Conn) → (g c).mine ≡ c.mine) → After o (put o (changed u g (end o w)) [] [] w) bs → Heard (put o (changed u g (end o w)) [] [] w)
    changes u g keeps a = none_new (put o (changed u g (end o w)) [] [] w) (ap (λ e. tags e.conns) (end-put o (changed u g (end o w)) [] [] w) ∙ tags-change u g (end o w).conns keeps) a

    on_ask_lem : (z : Found) → Heard (on_ask o p t z w)
    on_ask_lem (There c) = says-only (bare Yes c.mine c.theirs ∷ [])
    on_ask_lem NotThere = cond_both ((end o w).listens && (not (is_in t w.drawn) && not (eqb t 0))) (put o (added (new Half t p.from) (end o w)) (bare Yes t p.from ∷ []) (t ∷ []) w) w Heard (λ _. added-one) (λ _. nothing)
      where
        at_front : by_tag t (new Half t p.from ∷ (end o w).conns) ≡ There (new Half t p.from)
        at_front = by_tag-front t p.from (end o w).conns

        added-one : Heard (put o (added (new Half t p.from) (end o w)) (bare Yes t p.from ∷ []) (t ∷ []) w)
        added-one = (
          subst (λ z. After o (put o (added (new Half t p.from) (end o w)) (bare Yes t p.from ∷ []) (t ∷ []) w) (with_new t z bs))
              (sym (ap (λ e. by_tag t e.conns) (end-put o (added (new Half t p.from) (end o w)) (bare Yes t p.from ∷ []) (t ∷ []) w) ∙ at_front)) (after-new Half t p.from (bare Yes t p.from ∷ []) refl refl f),
          λ u h. ap (λ e. is_in u (tags e.conns)) (end-put o (added (new Half t p.from) (end o w)) (bare Yes t p.from ∷ []) (t ∷ []) w) ∙ in_new u (new Half t p.from) (end o w).conns h,
        )

    on_yes_lem : (z : Found) → by_tag p.to (end o w).conns ≡ z → Heard (on_yes o p z w)
    on_yes_lem NotThere e = says-only (bare Bye p.to p.from ∷ [])
    on_yes_lem (There c) e = cond_both (is_asked c.phase) (put o (changed c.mine (open_with p.from) (end o w)) [] [] w) (cond (eqb c.theirs p.from) w (put o (end o w) (bare Bye p.to p.from ∷ []) [] w)) Heard
        (λ _. changes c.mine (open_with p.from) (λ _. refl) (after_turn c.mine (open_with p.from) (λ _. refl) (λ d m _ _. record { mine = refl; given = refl; more = []; got = append-nil d.got; taken = refl; lives = refl; opened = or_right d.opened true refl })))
        (λ _. cond_both (eqb c.theirs p.from) w (put o (end o w) (bare Bye p.to p.from ∷ []) [] w) Heard (λ _. nothing) (λ _. says-only (bare Bye p.to p.from ∷ [])))

    on_text_lem : (z : Found) → Heard (on_text cfg o p z w)
    on_text_lem NotThere = says-only (bare Bye p.to p.from ∷ [])
    on_text_lem (There c) = cond_both (not (is_asked c.phase) && eqb c.theirs p.from) (put o (changed c.mine (λ d. hears cfg p (open_with p.from d)) (end o w)) [] [] w) w Heard
        (λ _. changes c.mine (λ d. hears cfg p (open_with p.from d)) (λ _. refl) (after_turn c.mine (λ d. hears cfg p (open_with p.from d)) (λ _. refl)
        (λ d m _ _. record { mine = refl; given = refl; more = turn (length (heard cfg p d).kept) (length d.got) (heard cfg p d).kept; got = refl; taken = refl; lives = refl; opened = or_right d.opened true refl })))
        (λ _. nothing)

    on_bye_lem : (z : Found) → Heard (on_bye o p z w)
    on_bye_lem NotThere = nothing
    on_bye_lem (There c) = cond_both (not (is_asked c.phase) && eqb c.theirs p.from) (put o (changed c.mine (in_phase Gone) (end o w)) [] [] w) w Heard
        (λ _. changes c.mine (in_phase Gone) (λ _. refl) (after-gone c.mine [])) (λ _. nothing)

    pub after-heard : (k : Kind) → Heard (on_kind cfg o p t k w)
    after-heard Ask = on_ask_lem (by_theirs p.from (end o w).conns)
    after-heard Yes = on_yes_lem (by_tag p.to (end o w).conns) refl
    after-heard Text = on_text_lem (by_tag p.to (end o w).conns)
    after-heard Bye = on_bye_lem (by_tag p.to (end o w).conns)
