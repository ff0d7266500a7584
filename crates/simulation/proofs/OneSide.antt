-- What a party does, with its net and the tags that were drawn, is what one side does.
use Rattle.std.proofs.Common.{◌≡◌, ℕ, ◌-◌, Bool, true, false, cond, not, ◌||◌, eqb, List, [], ◌∷◌, ◌++◌, length, Some, vec_items, sym, refl, ap, ◌∙◌, subst, inl, inr, ⊎_elim, arith}
use Rattle.std.proofs.lemmas.Bool.{cond-true, eqb-true, not-true, or_cases}
use Rattle.std.proofs.lemmas.Option.{get_or_from_slice_get, slice_get_within}
use Rattle.std.specs.List.{slice_get}
use Rattle.hold.specs.Packet as m
use Rattle.hold.specs.World.{End, Ev, Hears, L, R, Who, World, coming_to, hears_nth, is_in, on_kind, other, put, step, world}
use Rattle.hold.proofs.Inv.{inv, apart-at}
use Rattle.hold.specs.Rules.{Move, stays, listens, tells as says, edits, asks, answers}
use Rattle.hold.proofs.Moves.{moves}
use Rattle.packet.specs.Packets.{packet}
use Rattle.packet.specs.declared.packet.Packet.{Packet}
use Rattle.endpoint.specs.Stands as E
use Rattle.party.specs.Plays.{Acted, Draws, Moves}
use Rattle.simulation.specs.Shows.{Drawn, HalfDoes, Next, net_of}
use Rattle.simulation.specs.declared.half.Half.{Half}
use Rattle.simulation.proofs.Drawn.{New, fresh, in_push, nth}
use Rattle.simulation.proofs.Nets.{net_at, net_length}

pub put_drawn : (o : Who) (e : End) (ps : List m.Packet) (ts : List ℕ) (w : World) → (put o e ps ts w).drawn ≡ ts ++ w.drawn
put_drawn L e ps ts w = refl
put_drawn R e ps ts w = refl

-- nobody draws the tag 0
zero_one : (o : Who) (e : End) (ps : List m.Packet) (t : ℕ) (w : World) → eqb t 0 ≡ false → is_in 0 w.drawn ≡ false → is_in 0 (put o e ps (t ∷ []) w).drawn ≡ false
unfolding is_in
zero_one o e ps t w z h = ap (is_in 0) (put_drawn o e ps (t ∷ []) w) ∙ ap (λ b. b || is_in 0 w.drawn) z ∙ h

zero_move : (cfg : m.Settings) (w v : World) → Move cfg w v → is_in 0 w.drawn ≡ false → is_in 0 v.drawn ≡ false
zero_move cfg w v stays h = h
zero_move cfg w v (listens o b) h = ap (is_in 0) (put_drawn o _ [] [] w) ∙ h
zero_move cfg w v (says o ps g) h = ap (is_in 0) (put_drawn o _ ps [] w) ∙ h
zero_move cfg w v (edits o t f ps a b c) h = ap (is_in 0) (put_drawn o _ ps [] w) ∙ h
zero_move cfg w v (asks o t f z) h = zero_one o _ _ t w z h
zero_move cfg w v (answers o p t ws n k f z i l) h = zero_one o _ _ t w z h

pub zero_never : (cfg : m.Settings) (es : List Ev) → is_in 0 (world cfg es).drawn ≡ false
unfolding world is_in
zero_never cfg [] = refl
zero_never cfg (e ∷ es) = zero_move cfg (world cfg es) (step cfg e (world cfg es)) (moves cfg (world cfg es) (apart-at _ (inv cfg es).tagged) e) (zero_never cfg es)

-- a tag that may be drawn was not drawn
never : (cfg : m.Settings) (es : List Ev) (t : ℕ) (ts : List ℕ) → (eqb t 0 || not (is_in t ts)) ≡ true → Drawn (world cfg es) ts → is_in t (world cfg es).drawn ≡ false
never cfg es t ts h d = ⊎_elim (λ z. ap (λ u. is_in u (world cfg es).drawn) (eqb-true t 0 z) ∙ zero_never cfg es) (λ n. fresh t (world cfg es).drawn ts d (not-true _ n)) (or_cases (eqb t 0) (not (is_in t ts)) h)

pub stepped : (cfg : m.Settings) (e : Ev) (es : List Ev) → step cfg e (world cfg es) ≡ world cfg (e ∷ es)
unfolding world
stepped cfg e es = refl

-- what a half is after its party made a step and sent what that said; mid is the net with memory found
module _ (p q : Half) (came mid : List Packet) (os : List m.Packet) (next : Who → World → World) (fs : Who → World → List Ev) (kept : mid ≡ vec_items p.sent) (net : net_of (vec_items q.sent) ≡ os ++ net_of mid) where
  then : (ts : List ℕ) (o : Who) (es : List Ev) → Acted q.party os o (world (E.cfg p.party.end) es) (next o (world (E.cfg p.party.end) es)) → coming_to (other o) (world (E.cfg p.party.end) es) ≡ net_of (vec_items p.sent) → next o (world (E.cfg p.party.end) es) ≡ world (E.cfg p.party.end) (fs o (world (E.cfg p.party.end) es) ++ es) →
      Drawn (next o (world (E.cfg p.party.end) es)) ts → Next q ts o (world (E.cfg p.party.end) es) (world (E.cfg p.party.end) (fs o (world (E.cfg p.party.end) es) ++ es))
  then ts o es a e k d = subst (λ (v : World). Next q ts o (world (E.cfg p.party.end) es) v) k (record { plays = a.plays; sends = a.sends ∙ ap (λ z. os ++ z) e ∙ sym (net ∙ ap (λ z. os ++ net_of z) kept); far = a.far; back = a.back; drawn = d })

  -- nothing is drawn
  pub half_moves : (ts : List ℕ) → Moves p.party q.party os next → ((o : Who) (es : List Ev) → next o (world (E.cfg p.party.end) es) ≡ world (E.cfg p.party.end) (fs o (world (E.cfg p.party.end) es) ++ es)) → ((o : Who) (w : World) → (next o w).drawn ≡ w.drawn) → HalfDoes p q came ts ts fs
  half_moves ts s k d = record { settings = s.settings; acted = λ o es h e f g. then ts o es (s.acted o es h) f (k o es) (λ u n. g u (ap (is_in u) (sym (d o (world (E.cfg p.party.end) es))) ∙ n)) }

  -- a tag is drawn
  pub half_draws : (ts ts' : List ℕ) (t : ℕ) → Draws p.party q.party t os next → (eqb t 0 || not (is_in t ts)) ≡ true → ts' ≡ ts ++ t ∷ [] →
      ((o : Who) (es : List Ev) → coming_to o (world (E.cfg p.party.end) es) ≡ net_of came → next o (world (E.cfg p.party.end) es) ≡ world (E.cfg p.party.end) (fs o (world (E.cfg p.party.end) es) ++ es)) → ((o : Who) (w : World) → New t w (next o w)) → HalfDoes p q came ts ts' fs
  half_draws ts ts' t s h e k n = record {
    settings = s.settings;
    acted = λ o es a i f g. then ts' o es (s.acted o es a (never (E.cfg p.party.end) es t ts h g)) f (k o es i) (λ u m. ap (is_in u) e ∙ in_push u t ts (⊎_elim (λ y. inl (g u y)) (λ y. inr y) (n o (world (E.cfg p.party.end) es) u m)));
  }

pub may_draw : (t : ℕ) (ts us : List ℕ) → us ≡ ts → true ≡ (eqb t 0 || not (is_in t us)) → (eqb t 0 || not (is_in t ts)) ≡ true
may_draw t ts us e h = ap (λ z. eqb t 0 || not (is_in t z)) (sym e) ∙ sym h

-- the packet at a place is heard
pub heard_nth : (cfg : m.Settings) (o : Who) (t : ℕ) (came : List Packet) (i : ℕ) (p : Packet) (es : List Ev) → slice_get came i ≡ Some p → coming_to o (world cfg es) ≡ net_of came →
    on_kind cfg o (packet p) t (packet p).kind (world cfg es) ≡ world cfg (Hears o (length came - 1 - i) t ∷ es)
unfolding world
heard_nth cfg o t came i p es at n =
    let w = world cfg es in let l = slice_get_within came i p at in
    sym (ap (λ y. hears_nth cfg o (length came - 1 - i) t y w) n ∙ nth cfg o (length came - 1 - i) t (net_of came) w (packet p) (omega (arith, l, net_length came)) ∙ ap (λ y. on_kind cfg o y t y.kind w) (net_at came i p (packet p) l ∙ ap packet (get_or_from_slice_get came i p p at)))

-- what was put into memory that was found first
pub drew : (ts us vs : List ℕ) (t : ℕ) (b : Bool) → us ≡ ts → b ≡ true → vs ≡ cond b (us ++ t ∷ []) us → vs ≡ ts ++ t ∷ []
drew ts us vs t b e h k = k ∙ cond-true b (us ++ t ∷ []) us h ∙ ap (λ z. z ++ t ∷ []) e

-- one event, for which nothing is drawn
module _ (p q : Half) (came mid : List Packet) (os : List m.Packet) (ts : List ℕ) (ev : Who → World → Ev) (drawn : (o : Who) (w : World) → (step (E.cfg p.party.end) (ev o w) w).drawn ≡ w.drawn) where
  pub half_acts : mid ≡ vec_items p.sent → net_of (vec_items q.sent) ≡ os ++ net_of mid → Moves p.party q.party os (λ o w. step (E.cfg p.party.end) (ev o w) w) → HalfDoes p q came ts ts (λ o w. ev o w ∷ [])
  half_acts kept net s = half_moves p q came mid os _ (λ o w. ev o w ∷ []) kept net ts s (λ o es. stepped (E.cfg p.party.end) (ev o (world (E.cfg p.party.end) es)) es) drawn

-- an event or none
pub stepped_if : (cfg : m.Settings) (b : Bool) (e : Ev) (es : List Ev) → cond b (step cfg e (world cfg es)) (world cfg es) ≡ world cfg (cond b (e ∷ []) [] ++ es)
unfolding world
stepped_if cfg true e es = refl
stepped_if cfg false e es = refl

pub drawn_if : (b : Bool) (v w : World) → v.drawn ≡ w.drawn → (cond b v w).drawn ≡ w.drawn
drawn_if true v w e = e
drawn_if false v w e = refl
