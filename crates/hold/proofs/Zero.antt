-- Nobody has the tag 0, and nothing is sent from it. Assumes nothing.
use Rattle.std.proofs.Common.{◌≡◌, ℕ, zero, suc, true, false, cond, not, eqb, List, [], ◌∷◌, sym, refl, ap, ◌∙◌, ⊎_elim}
use mathlib.Core.List.Memᴰ
use mathlib.Core.List.{Memᴰ}
use Rattle.std.proofs.lemmas.Bool.{cond_both, and_parts, or_parts, eqb-false, not-true}
use Rattle.hold.specs.Packet.{Settings, Packet, Kind, Ask, Yes, Text, Bye, bare}
use Rattle.hold.specs.Conn.{Conn, Phase, Asked, Half, Open, Gone, new, in_phase, open_with, gives, closes, takes, hears, says, due}
use Rattle.hold.specs.World.{Who, L, R, End, World, Ev, start, Listens, Opens, Due, Gives, Closes, Takes, Sends, Breaks, Forgets, Hears, end, coming_to, put, changed, added, gone, is_in, is_open, is_asked, by_tag, by_theirs, Found, NotThere, There, says_if, due_by, due_if, bye_if, on_ask, on_yes, on_text, on_bye, on_kind, hears_nth, step, world}
use Rattle.hold.specs.Promise.{At}
use Rattle.hold.specs.Code.{is_ask}
use Rattle.hold.specs.Extras.{NoZero}
use Rattle.hold.proofs.Bricks.{false_true}
use Rattle.hold.proofs.Table.{mem_change, by_tag_mem, by_theirs_mem}
use Rattle.hold.proofs.Inv.{open-settled}

-- of the tags of a connection, and of those of a packet
record Fine (m t : ℕ) (h : Phase) : Type 0 where
  mine : m ≡ 0 → ⊥
  theirs : gone h ≡ false → is_asked h ≡ false → t ≡ 0 → ⊥

record Marked (k : Kind) (f t : ℕ) : Type 0 where
  from : f ≡ 0 → ⊥
  to : is_ask k ≡ false → t ≡ 0 → ⊥

abbrev FineOf : Conn → Type 0
FineOf c = Fine c.mine c.theirs c.phase

abbrev MarkedOf : Packet → Type 0
MarkedOf p = Marked p.kind p.from p.to

record Zero (w : World) : Type 0 where
  conns : (o : Who) (c : Conn) → At o w c → FineOf c
  sent : (o : Who) (p : Packet) → Memᴰ p (coming_to o w) → MarkedOf p

none : {X : Type 0} {p : Packet} → Memᴰ p [] → X
none m = absurd (Memᴰ.not-nil m)

one-marked : (q p : Packet) → MarkedOf q → Memᴰ p (q ∷ []) → MarkedOf p
one-marked q p k m = rw (Memᴰ.eq_of_singleton m) k

put_conns : (o : Who) (e : End) (ps : List Packet) (ts : List ℕ) (w : World) → Zero w → ((c : Conn) → Memᴰ c e.conns → FineOf c) → (q : Who) (c : Conn) → At q (put o e ps ts w) c → FineOf c
put_conns L e ps ts w z f L c m = f c m
put_conns L e ps ts w z f R c m = z.conns R c m
put_conns R e ps ts w z f L c m = z.conns L c m
put_conns R e ps ts w z f R c m = f c m

put-sent : (o : Who) (e : End) (ps : List Packet) (ts : List ℕ) (w : World) → Zero w → ((p : Packet) → Memᴰ p ps → MarkedOf p) → (q : Who) (p : Packet) → Memᴰ p (coming_to q (put o e ps ts w)) → MarkedOf p
put-sent L e ps ts w z f L p m = z.sent L p m
put-sent L e ps ts w z f R p m = ⊎_elim (f p) (z.sent R p) (Memᴰ.append_cases ps m)
put-sent R e ps ts w z f L p m = ⊎_elim (f p) (z.sent L p) (Memᴰ.append_cases ps m)
put-sent R e ps ts w z f R p m = z.sent R p m

zero_put : (o : Who) (e : End) (ps : List Packet) (ts : List ℕ) (w : World) → Zero w → ((c : Conn) → Memᴰ c e.conns → FineOf c) → ((p : Packet) → Memᴰ p ps → MarkedOf p) → Zero (put o e ps ts w)
zero_put o e ps ts w z f g = record { conns = put_conns o e ps ts w z f; sent = put-sent o e ps ts w z g }

module _ (cfg : Settings) (w : World) (z : Zero w) where
  tells : (o : Who) (ps : List Packet) → ((p : Packet) → Memᴰ p ps → MarkedOf p) → Zero (put o (end o w) ps [] w)
  tells o ps g = zero_put o (end o w) ps [] w z (z.conns o) g

  tells_one : (o : Who) (p : Packet) → MarkedOf p → Zero (put o (end o w) (p ∷ []) [] w)
  tells_one o p k = tells o (p ∷ []) (λ q m. one-marked p q k m)

  edits : (o : Who) (t : ℕ) (f : Conn → Conn) (ps : List Packet) → ((c : Conn) → FineOf c → FineOf (f c)) → ((p : Packet) → Memᴰ p ps → MarkedOf p) → Zero (put o (changed t f (end o w)) ps [] w)
  edits o t f ps k g = zero_put o (changed t f (end o w)) ps [] w z (λ c m. ⊎_elim (z.conns o c) (λ (d, n, _, _, e). rw e (k d (z.conns o d n))) (mem_change t f _ c m)) g

  adds : (o : Who) (c : Conn) (p : Packet) (ts : List ℕ) → FineOf c → MarkedOf p → Zero (put o (added c (end o w)) (p ∷ []) ts w)
  adds o c p ts f k = zero_put o (added c (end o w)) (p ∷ []) ts w z (λ x m. ⊎_elim (λ e. rw e f) (z.conns o x) (Memᴰ.cases_cons m)) (λ q m. one-marked p q k m)

  is_gone_lem : (c : Conn) → FineOf c → FineOf (in_phase Gone c)
  is_gone_lem c f = record { mine = f.mine; theirs = λ h. false_true true h refl }

  both : (k : Kind) (c : Conn) → FineOf c → gone c.phase ≡ false → is_asked c.phase ≡ false → Marked k c.mine c.theirs
  both k c f g a = record { from = f.mine; to = λ _. f.theirs g a }

  due_by_lem : (c : Conn) → FineOf c → (h : Phase) → c.phase ≡ h → (p : Packet) → Memᴰ p (due_by cfg c h) → MarkedOf p
  due_by_lem c f Asked e p m = one-marked _ p (record { from = f.mine; to = λ k. false_true true k refl }) m
  due_by_lem c f Half e p m = one-marked _ p (both Yes c f (ap gone e) (ap is_asked e)) m
  due_by_lem c f Open e p m = one-marked (due cfg c) p (both Text c f (ap gone e) (ap is_asked e)) m
  due_by_lem c f Gone e p m = none m

  due_if_lem : (o : Who) (t : ℕ) (f : Found) → by_tag t (end o w).conns ≡ f → (p : Packet) → Memᴰ p (due_if cfg f) → MarkedOf p
  due_if_lem o t NotThere e p m = none m
  due_if_lem o t (There c) e p m = due_by_lem c (z.conns o c (by_tag_mem _ _ c e).0) c.phase refl p m

  says_if_lem : (o : Who) (t q k : ℕ) (f : Found) → by_tag t (end o w).conns ≡ f → (p : Packet) → Memᴰ p (says_if cfg q k f) → MarkedOf p
  says_if_lem o t q k NotThere e p = λ m. none m
  says_if_lem o t q k (There c) e p = let (m, _, g) = by_tag_mem _ _ c e in cond_both (is_open c.phase) (says cfg q k c ∷ []) [] (λ ps. Memᴰ p ps → MarkedOf p)
      (λ h n. one-marked (says cfg q k c) p (both Text c (z.conns o c m) g (open-settled c.phase h)) n) (λ _ n. none n)

  bye_if_lem : (o : Who) (t : ℕ) (f : Found) → by_tag t (end o w).conns ≡ f → (p : Packet) → Memᴰ p (bye_if f) → MarkedOf p
  bye_if_lem o t NotThere e p = λ m. none m
  bye_if_lem o t (There c) e p = let (m, _, g) = by_tag_mem _ _ c e in cond_both (is_asked c.phase) [] (bare Bye c.mine c.theirs ∷ []) (λ ps. Memᴰ p ps → MarkedOf p)
      (λ _ n. none n) (λ h n. one-marked (bare Bye c.mine c.theirs) p (both Bye c (z.conns o c m) g h) n)

  module _ (o : Who) (p : Packet) (t : ℕ) (k : MarkedOf p) where
    -- a bye for a packet that nobody is there for
    turned : is_ask p.kind ≡ false → Marked Bye p.to p.from
    turned a = record { from = k.to a; to = λ _. k.from }

    opens : (c : Conn) → FineOf c → FineOf (open_with p.from c)
    opens c f = record { mine = f.mine; theirs = λ _ _. k.from }

    on_ask_lem : (f : Found) → by_theirs p.from (end o w).conns ≡ f → Zero (on_ask o p t f w)
    on_ask_lem (There c) e = let (m, h, _) = by_theirs_mem _ _ c e in tells_one o (bare Yes c.mine c.theirs) (record { from = (z.conns o c m).mine; to = λ _ q. k.from (sym h ∙ q) })
    on_ask_lem NotThere e = cond_both _ _ _ Zero (λ h. let (_, v) = and_parts (not (is_in t w.drawn)) _ (and_parts (end o w).listens _ h).1 in let a = eqb-false t 0 (not-true _ v) in
        adds o (new Half t p.from) (bare Yes t p.from) (t ∷ []) (record { mine = a; theirs = λ _ _. k.from }) (record { from = a; to = λ _. k.from })) (λ _. z)

    on_yes_lem : p.kind ≡ Yes → (f : Found) → Zero (on_yes o p f w)
    on_yes_lem y NotThere = tells_one o (bare Bye p.to p.from) (turned (ap is_ask y))
    on_yes_lem y (There c) = cond_both (is_asked c.phase) _ (cond (eqb c.theirs p.from) w (put o (end o w) (bare Bye p.to p.from ∷ []) [] w)) Zero (λ _. edits o c.mine (open_with p.from) [] opens (λ _ m. none m)) (λ _. cond_both (eqb c.theirs p.from) _ _ Zero (λ _. z) (λ _. tells_one o (bare Bye p.to p.from) (turned (ap is_ask y))))

    on_text_lem : p.kind ≡ Text → (f : Found) → Zero (on_text cfg o p f w)
    on_text_lem y NotThere = tells_one o (bare Bye p.to p.from) (turned (ap is_ask y))
    on_text_lem y (There c) = cond_both _ _ _ Zero (λ _. edits o c.mine (λ d. hears cfg p (open_with p.from d)) [] opens (λ _ m. none m)) (λ _. z)

    on_bye_lem : (f : Found) → Zero (on_bye o p f w)
    on_bye_lem NotThere = z
    on_bye_lem (There c) = cond_both _ _ _ Zero (λ _. edits o c.mine (in_phase Gone) [] is_gone_lem (λ _ m. none m)) (λ _. z)

    on_kind_lem : (y : Kind) → p.kind ≡ y → Zero (on_kind cfg o p t y w)
    on_kind_lem Ask y = on_ask_lem _ refl
    on_kind_lem Yes y = on_yes_lem y (by_tag p.to (end o w).conns)
    on_kind_lem Text y = on_text_lem y (by_tag p.to (end o w).conns)
    on_kind_lem Bye y = on_bye_lem (by_tag p.to (end o w).conns)

  nth : (o : Who) (i t : ℕ) (ps : List Packet) → ((p : Packet) → Memᴰ p ps → MarkedOf p) → Zero (hears_nth cfg o i t ps w)
  unfolding hears_nth
  nth o i t [] g = z
  nth o zero t (p ∷ ps) g = on_kind_lem o p t (g p (Memᴰ.head refl)) p.kind refl
  nth o (suc i) t (p ∷ ps) g = nth o i t ps (λ q m. g q (Memᴰ.tail m))

  zero_step : (e : Ev) → Zero (step cfg e w)
  zero_step (Listens o b) = zero_put o _ [] [] w z (z.conns o) (λ _ m. none m)
  zero_step (Opens o t) = cond_both _ _ _ Zero (λ _. z) (λ h. let a = eqb-false t 0 (or_parts _ _ h).1 in
      adds o (new Asked t 0) (bare Ask t 0) (t ∷ []) (record { mine = a; theirs = λ _ k. false_true true k refl }) (record { from = a; to = λ k. false_true true k refl }))
  zero_step (Due o t) = tells o _ (due_if_lem o t _ refl)
  zero_step (Gives o t bs) = edits o t (gives bs) [] (λ _ f. f) (λ _ m. none m)
  zero_step (Closes o t) = edits o t closes [] (λ _ f. f) (λ _ m. none m)
  zero_step (Takes o t k) = edits o t (takes k) [] (λ _ f. f) (λ _ m. none m)
  zero_step (Sends o t q k) = tells o _ (says_if_lem o t q k _ refl)
  zero_step (Breaks o t) = edits o t (in_phase Gone) _ is_gone_lem (bye_if_lem o t _ refl)
  zero_step (Forgets o t) = edits o t (in_phase Gone) [] is_gone_lem (λ _ m. none m)
  zero_step (Hears o i t) = nth o i t _ (z.sent o)

zero_world : (cfg : Settings) (es : List Ev) → Zero (world cfg es)
unfolding world
zero_world cfg [] = record { conns = nobody; sent = nothing }
  where
    nobody : (o : Who) (c : Conn) → At o start c → FineOf c
    nobody L c m = absurd (Memᴰ.not-nil m)
    nobody R c m = absurd (Memᴰ.not-nil m)

    nothing : (o : Who) (p : Packet) → Memᴰ p (coming_to o start) → MarkedOf p
    nothing L p m = none m
    nothing R p m = none m
zero_world cfg (e ∷ es) = zero_step cfg (world cfg es) (zero_world cfg es) e

pub no_zero : NoZero
no_zero cfg es o = (λ c m. ((zero_world cfg es).conns o c m).mine, λ p m. ((zero_world cfg es).sent o p m).from)
