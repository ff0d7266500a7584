use Rattle.std.proofs.Common.{List, ℕ, length, sym, refl, subst, ◌∙◌, ⊎_elim, arith}
use Rattle.hold.specs.Conn.{Conn, takes}
use Rattle.hold.specs.World.{Takes}
use Rattle.connection.specs.Stand.{Drained, LeftOver, Stand1, rings}
use Rattle.table.specs.Search.{at}
use Rattle.endpoint.specs.Stands.{cfg, lent}
use Rattle.endpoint.proofs.Memory.{beside, set_at}
use Rattle.endpoint.proofs.Ends.{finding, found_as, missing, steps_some}
use Rattle.endpoint.proofs.Leaving.{either, takes-left, takes-steps}
use Rattle.endpoint.proofs.Endpoint.take.Goals as goal

-- the ring that is handed in is the lane's, and what is left of the connection is put at the lane, however the code names them
pub returns : goal.returns
returns c =
    let x = c.args.self.now in
    let l = c.in_ok-lane.lane in
    let r = c.take-n in
    let left : (d : Conn) → LeftOver (cfg x) (at x.table l) (lent x l) d → Drained (cfg x) (at x.table l) r.result.0 (lent x l) d c.args.out.now r.new.out r.result.1 =
    subst (λ (ring : List ℕ). (d : Conn) → LeftOver (cfg x) (at x.table l) (rings (lent x l).out ring (lent x l).bits) d → Drained (cfg x) (at x.table l) r.result.0 (rings (lent x l).out ring (lent x l).bits) d c.args.out.now r.new.out r.result.1) (grind arith) (r.ensures.drained (cfg x) (lent x l).out (lent x l).bits) in
    let b = beside l x _ refl refl refl in
    ⊎_elim
    (λ h. record {
      steps = steps_some x _ l b c.args.tag (λ o. Takes o c.args.tag (length c.args.out.now)) (takes (length c.args.out.now)) (λ o w. refl) r.result.0 (set_at _ _ _ l _ refl (omega arith)) refl h (λ _. r.ensures.acts (cfg x) (lent x l));
      lives = λ e s d q. r.ensures.took (cfg x) (lent x l).out (lent x l).bits d (subst (λ (ring : List ℕ). Stand1 (cfg x) (at x.table l) (rings (lent x l).out ring (lent x l).bits) d) (grind arith) (found_as x e s c.args.tag l h d q));
      gone = λ e s q. absurd (cc (sym (finding x e s c.args.tag l h).there ∙ q));
    })
    (λ h. record {
      steps = takes-steps x c.args.tag l h.0 h.1 _ b r.result.0 (set_at _ _ _ l _ refl (omega arith)) refl c.args.out.now r.new.out r.result.1 left;
      lives = λ e s d q. absurd (cc (sym q ∙ missing x e s c.args.tag h.0));
      gone = λ e s q. takes-left x c.args.tag l h.0 h.1 _ b r.result.0 (set_at _ _ _ l _ refl (omega arith)) refl c.args.out.now r.new.out r.result.1 left e s;
    })
    (either x c.args.tag l c.in_ok-lane.ensures.0)
