use Rattle.std.proofs.Common.{◌≡◌, [], ◌∷◌, length, ◌-◌, Some, Ok, Err, ◌∙◌, ap, refl, arith}
use Rattle.std.proofs.lemmas.Option.{slice_get_read}
use Rattle.std.specs.List.{slice_get}
use Rattle.hold.specs.World.{Hears}
use Rattle.simulation.specs.Shows.{Does, when_ok, who_of}
use Rattle.simulation.specs.Sides.{with_side}
use Rattle.simulation.proofs.BothSides.{came_is, delivered}
use Rattle.simulation.proofs.RoundsMade.{on_err}
use Rattle.simulation.proofs.pair.Pair.deliver.Goals as goal

pub returns : goal.returns
returns c =
    let e = c.sent_to-came.ensures ∙ came_is c.args.self.now c.args.side in
    let (l, h) = rw c.in_ok-p.ensures.ok_part at (c.get.ensures.lookup.3) in
    let x = c.in_ok-p.field-0.now in
    let at : slice_get c.sent_to-came.result.now c.args.i ≡ Some x = slice_get_read _ _ _ _ refl l (h x) in
    record {
      place = (omega (arith, l, ap length e), ap (λ z. length z - 1 - c.args.i) e);
      did = delivered c.args.self.now c.args.side _ _ _ c.sent_to-came.result.now c.args.i c.args.draws x (Ok tt) c.get_mut.ensures.value e at c.in_ok-hear.ensures;
    }

pub returns-in_err-hear-clause-did : goal.returns-in_err-hear-clause-did
returns-in_err-hear-clause-did c =
    let (l, h) = rw c.in_ok-p.ensures.ok_part at (c.get.ensures.lookup.3) in
    let x = c.in_ok-p.field-0.now in
    let at : slice_get c.sent_to-came.result.now c.args.i ≡ Some x = slice_get_read _ _ _ _ refl l (h x) in
    on_err (λ r. Does c.args.self.now (record { halves = with_side c.args.side c.args.self.now.halves c.hear.new.self; drawn = c.hear.new.drawn }) (λ _. when_ok (λ k. Hears (who_of c.args.side) k c.args.draws ∷ []) r)) _ c.from_residual-in_err-hear.ensures.0
    (λ _. delivered c.args.self.now c.args.side _ _ c.hear.new.drawn c.sent_to-came.result.now c.args.i c.args.draws x (Err c.in_err-hear.field-0.0) c.get_mut.ensures.value (c.sent_to-came.ensures ∙ came_is c.args.self.now c.args.side) at c.in_err-hear.ensures)
