use Rattle.simulation.specs.Shows.{send_of, when_ok}
use Rattle.simulation.proofs.BothSides.{moved_own}
use Rattle.simulation.proofs.pair.Pair.send.Goals as goal

pub returns : goal.returns
returns c = moved_own c.args.self.now c.args.side _ _ _ (λ p o w. when_ok (λ _. send_of p o c.args.tag c.args.span.place c.args.span.most w) c.send.result) c.get_mut.ensures.value (c.send.ensures _ _)
