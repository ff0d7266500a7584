-- Packets heard.
use Rattle.std.proofs.Common.{◌≡◌, ℕ, ◌≤◌, Bool, true, false, cond, not, ◌&&◌, ◌||◌, eqb, ltb, List, [], ◌∷◌, length, set, is_some, Some, None, sym, refl, ap, ◌∙◌, subst}
use Rattle.std.proofs.lemmas.Bool.{and_from, and_left, and_right, cond-false, cond-true, eq-eqb, le-ltb, ne_eqb}
use Rattle.hold.specs.Conn.{Conn, Half, new, open_with}
use Rattle.hold.specs.Code.{is_ask}
use Rattle.hold.specs.Packet.{Bye, Kind, Packet, Yes, bare}
use Rattle.hold.specs.World.{Found, NotThere, There, Who, World, added, by_tag, by_theirs, changed, end, is_asked, is_in, on_ask, on_yes, put}
use Rattle.packet.specs.Sizes.{text_size}
use Rattle.connection.specs.Fields.{partner}
use Rattle.connection.specs.Phases.{phase_of}
use Rattle.connection.specs.Stand.{ActsAs}
use Rattle.connection.specs.declared.connection.Connection.{Connection}
use Rattle.lanes.specs.Used.{used}
use Rattle.table.specs.Search.{at, finds, has_room, is_there}
use Rattle.table.specs.declared.Wanted.TheVariants.{Peer, Tag}
use Rattle.endpoint.specs.Hearing.{cause, hear_number, needs, too_far, zero_tag}
use Rattle.endpoint.specs.Stands.{Sized, Stands, cfg, lent}
use Rattle.endpoint.specs.Steps.{After, Heard}
use Rattle.endpoint.specs.declared.Endpoint.{Endpoint}
use Rattle.endpoint.proofs.Memory.{Beside}
use Rattle.endpoint.proofs.Ends.{Is, after-put, after_same, changed_some, finding, missing, no_peer, peer}

-- a packet that changes the connection that it is for, if that is one with its sender, and no other
module _ (x : Endpoint) (o : Who) (w : World) (s : Stands x (end o w)) (p : Packet) (on : Found → World) (f : Conn → Conn)
    (there : (c : Conn) → on (There c) ≡ cond (not (is_asked c.phase) && eqb c.theirs p.from) (put o (changed c.mine f (end o w)) [] [] w) w)
    (l : ℕ) (h : Some l ≡ finds (Tag p.to) x.table) where
  test : (g : Is (cfg x) (at x.table l) (lent x l) p.to (by_tag p.to (end o w).conns)) → partner p.from (at x.table l).pairing ≡ (not (is_asked g.c.phase) && eqb g.c.theirs p.from)
  test g = ap (λ (d : Conn). not (is_asked d.phase) && eqb d.theirs p.from) g.stand.is

  pub for_other : false ≡ partner p.from (at x.table l).pairing → After x [] o w (on (by_tag p.to (end o w).conns))
  for_other t =
      let g = finding x (end o w) s p.to l h in
      let e : on (by_tag p.to (end o w).conns) ≡ w = ap on g.there ∙ there g.c ∙ cond-false _ (put o (changed g.c.mine f (end o w)) [] [] w) w (sym (t ∙ test g)) in
      subst (λ (v : World). After x [] o w v) (sym e) (after_same x o w s)

  pub for_it : (y : Endpoint) (b : Beside l x y) (z : Connection) → y.table.conns ≡ set x.table.conns l z → used y.table.lanes ≡ used x.table.lanes →
      true ≡ partner p.from (at x.table l).pairing → (Sized x → ActsAs (cfg x) (at x.table l) (lent x l) z (lent y l) f) → After y [] o w (on (by_tag p.to (end o w).conns))
  for_it y b z ec en t acts =
      let g = finding x (end o w) s p.to l h in
      let e : on (by_tag p.to (end o w).conns) ≡ put o (changed p.to f (end o w)) [] [] w =
      ap on g.there ∙ there g.c ∙ cond-true _ (put o (changed g.c.mine f (end o w)) [] [] w) w (sym (t ∙ test g)) ∙ ap (λ k. put o (changed k f (end o w)) [] [] w) g.mine in
      subst (λ (v : World). After y [] o w v) (sym e) (after-put y [] o (changed p.to f (end o w)) [] w (changed_some x (end o w) s l y b p.to z f ec en h acts))

-- a packet for nobody: nothing happens, or a bye goes back
module _ (x : Endpoint) (o : Who) (w : World) (s : Stands x (end o w)) (p : Packet) (h : None ≡ finds (Tag p.to) x.table) where
  pub no_one : (on : Found → World) → on NotThere ≡ w → After x [] o w (on (by_tag p.to (end o w).conns))
  no_one on e = subst (λ (v : World). After x [] o w v) (sym (ap on (missing x (end o w) s p.to h) ∙ e)) (after_same x o w s)

  pub bye_back : (on : Found → World) → on NotThere ≡ put o (end o w) (bare Bye p.to p.from ∷ []) [] w → (b : Packet) → b ≡ bare Bye p.to p.from → After x (b ∷ []) o w (on (by_tag p.to (end o w).conns))
  bye_back on e b eb = subst (λ (v : World). After x (b ∷ []) o w v)
      (sym (ap on (missing x (end o w) s p.to h) ∙ e ∙ ap (λ (q : Packet). put o (end o w) (q ∷ []) [] w) (sym eb))) (after-put x (b ∷ []) o (end o w) [] w s)

-- a yes is heard
module _ (x : Endpoint) (o : Who) (w : World) (s : Stands x (end o w)) (p : Packet) (l : ℕ) (h : Some l ≡ finds (Tag p.to) x.table) where
  -- the model's test by that of the code
  asked : (b : Bool) → b ≡ is_asked (phase_of (at x.table l).pairing.phase) → (f : Is (cfg x) (at x.table l) (lent x l) p.to (by_tag p.to (end o w).conns)) → is_asked f.c.phase ≡ b
  asked b e f = sym (e ∙ ap (λ (d : Conn). is_asked d.phase) f.stand.is)

  pub yes_asked : (y : Endpoint) (b : Beside l x y) (z : Connection) → y.table.conns ≡ set x.table.conns l z → used y.table.lanes ≡ used x.table.lanes →
      true ≡ is_asked (phase_of (at x.table l).pairing.phase) → (Sized x → ActsAs (cfg x) (at x.table l) (lent x l) z (lent y l) (open_with p.from)) → After y [] o w (on_yes o p (by_tag p.to (end o w).conns) w)
  yes_asked y b z ec en t acts =
      let f = finding x (end o w) s p.to l h in
      subst (λ (m : Found). After y [] o w (on_yes o p m w)) (sym f.there)
      (rw (asked true t f, f.mine)
      (after-put y [] o (changed p.to (open_with p.from) (end o w)) [] w (changed_some x (end o w) s l y b p.to z (open_with p.from) ec en h acts)))

  pub yes_same : false ≡ is_asked (phase_of (at x.table l).pairing.phase) → (at x.table l).pairing.theirs ≡ p.from → After x [] o w (on_yes o p (by_tag p.to (end o w).conns) w)
  yes_same t e =
      let f = finding x (end o w) s p.to l h in
      let q : eqb f.c.theirs p.from ≡ true = eq-eqb f.c.theirs p.from (ap (λ (d : Conn). d.theirs) (sym f.stand.is) ∙ e) in
      subst (λ (m : Found). After x [] o w (on_yes o p m w)) (sym f.there) (rw (asked false t f, q) (after_same x o w s))

  pub yes_other : false ≡ is_asked (phase_of (at x.table l).pairing.phase) → ((at x.table l).pairing.theirs ≡ p.from → ⊥) → (b : Packet) → b ≡ bare Bye p.to p.from →
      After x (b ∷ []) o w (on_yes o p (by_tag p.to (end o w).conns) w)
  yes_other t ne b e =
      let f = finding x (end o w) s p.to l h in
      let q : eqb f.c.theirs p.from ≡ false = ne_eqb f.c.theirs p.from (λ k. ne (ap (λ (d : Conn). d.theirs) f.stand.is ∙ k)) in
      subst (λ (m : Found). After x (b ∷ []) o w (on_yes o p m w)) (sym f.there)
      (rw (asked false t f, q) (subst (λ (r : Packet). After x (b ∷ []) o w (put o (end o w) (r ∷ []) [] w)) e (after-put x (b ∷ []) o (end o w) [] w s)))

-- an ask is heard
module _ (x : Endpoint) (o : Who) (w : World) (s : Stands x (end o w)) (p : Packet) (t : ℕ) where
  pub ask_again : (l : ℕ) → Some l ≡ finds (Peer p.from) x.table → (b : Packet) → b ≡ bare Yes (at x.table l).pairing.mine (at x.table l).pairing.theirs →
      After x (b ∷ []) o w (on_ask o p t (by_theirs p.from (end o w).conns) w)
  ask_again l h b e =
      let f = peer x (end o w) s p.from l h in
      let e2 : b ≡ bare Yes f.0.mine f.0.theirs = e ∙ ap (λ (d : Conn). bare Yes d.mine d.theirs) f.2.is in
      subst (λ (m : Found). After x (b ∷ []) o w (on_ask o p t m w)) (sym f.1)
      (subst (λ (r : Packet). After x (b ∷ []) o w (put o (end o w) (r ∷ []) [] w)) e2 (after-put x (b ∷ []) o (end o w) [] w s))

  module _ (h : None ≡ finds (Peer p.from) x.table) where
    -- the test of the model, and the world with one connection more
    abbrev would_take : Bool
    would_take = (end o w).listens && (not (is_in t w.drawn) && not (eqb t 0))

    abbrev one : World
    one = put o (added (new Half t p.from) (end o w)) (bare Yes t p.from ∷ []) (t ∷ []) w

    ask_not : would_take ≡ false → After x [] o w (on_ask o p t (by_theirs p.from (end o w).conns) w)
    ask_not e = subst (λ (m : Found). After x [] o w (on_ask o p t m w)) (sym (no_peer x (end o w) s p.from h))
        (subst (λ (v : World). After x [] o w v) (sym (cond-false would_take one w e)) (after_same x o w s))

    pub ask_deaf : x.listens ≡ false → After x [] o w (on_ask o p t (by_theirs p.from (end o w).conns) w)
    ask_deaf n = ask_not (and_left (end o w).listens (not (is_in t w.drawn) && not (eqb t 0)) (sym s.listens ∙ n))

    pub ask_zero : t ≡ 0 → After x [] o w (on_ask o p t (by_theirs p.from (end o w).conns) w)
    ask_zero z = ask_not (and_right (end o w).listens (not (is_in t w.drawn) && not (eqb t 0)) (and_right (not (is_in t w.drawn)) (not (eqb t 0)) (ap not (eq-eqb t 0 z))))

    pub ask_new : (y : Endpoint) → Stands y (added (new Half t p.from) (end o w)) → x.listens ≡ true → is_in t w.drawn ≡ false → (t ≡ 0 → ⊥) →
        (q : Packet) → q ≡ bare Yes t p.from → After y (q ∷ []) o w (on_ask o p t (by_theirs p.from (end o w).conns) w)
    ask_new y more n d n0 q e =
        let test : would_take ≡ true = and_from (end o w).listens (not (is_in t w.drawn) && not (eqb t 0)) (sym s.listens ∙ n) (and_from (not (is_in t w.drawn)) (not (eqb t 0)) (ap not d) (ap not (ne_eqb t 0 n0))) in
        subst (λ (m : Found). After y (q ∷ []) o w (on_ask o p t m w)) (sym (no_peer x (end o w) s p.from h))
        (subst (λ (v : World). After y (q ∷ []) o w v) (sym (cond-true would_take one w test))
        (subst (λ (r : Packet). After y (q ∷ []) o w (put o (added (new Half t p.from) (end o w)) (r ∷ []) (t ∷ []) w)) e
        (after-put y (q ∷ []) o (added (new Half t p.from) (end o w)) (t ∷ []) w more)))

-- the number, by what was found out
pub number-is : (x : Endpoint) (p : Packet) (t : ℕ) (zero far needed n room there : Bool) → length p.text ≤ text_size → zero ≡ (zero_tag p || (needed && eqb t 0)) → far ≡ too_far p →
    needed ≡ needs x p → needed ≡ n → room ≡ has_room x.table → there ≡ is_there t x.table → hear_number x p t ≡ cause false zero far n room there
number-is x p t zero far needed n room there short z f e k r h = let l : ltb text_size (length p.text) ≡ false = le-ltb text_size (length p.text) short in cc

-- where there is no cause, a text fits, and there is room where it is needed
pub record Fine (long far needed room : Bool) : Type 0 where
  pub short : long ≡ false
  pub near : far ≡ false
  pub free : needed ≡ true → room ≡ true

fine : (long zero far needed room there : Bool) → cause long zero far needed room there ≡ 0 → Fine long far needed room
fine true zero far needed room there e = absurd cc
fine false true far needed room there e = absurd cc
fine false false true needed room there e = absurd cc
fine false false false needed true there e = record { short = refl; near = refl; free = λ _. refl }
fine false false false true false there e = absurd cc
fine false false false false false there e = record { short = refl; near = refl; free = λ n. n }

module _ (x : Endpoint) (p : Packet) (t : ℕ) (e : hear_number x p t ≡ 0) where
  none_of : Fine (ltb text_size (length p.text)) (too_far p) (needs x p) (has_room x.table)
  none_of = fine (ltb text_size (length p.text)) (zero_tag p || (needs x p && eqb t 0)) (too_far p) (needs x p) (has_room x.table) (is_there t x.table) e

  pub has_place : is_ask p.kind ≡ true → None ≡ finds (Peer p.from) x.table → x.listens ≡ true → has_room x.table ≡ true
  has_place k h l = none_of.free (and_from (is_ask p.kind) (x.listens && not (is_some (finds (Peer p.from) x.table))) k (and_from x.listens (not (is_some (finds (Peer p.from) x.table))) l (ap (λ o. not (is_some o)) (sym h))))

-- a packet is heard as one of its own kind
pub heard_kind : (x y : Endpoint) (out : List Packet) (p : Packet) (k : Kind) (t : ℕ) → p.kind ≡ k → Heard x y out p k t → Heard x y out p p.kind t
heard_kind x y out p k t e h = subst (λ (j : Kind). Heard x y out p j t) (sym e) h
