use Rattle.simulation.specs.Shows.{answer_of, when_ok}
use Rattle.simulation.proofs.BothSides.{moved_own}
use Rattle.simulation.proofs.pair.Pair.answer.Goals as goal

pub returns : goal.returns
returns c = moved_own c.args.self.now c.args.side _ _ _ (λ p o w. when_ok (λ _. answer_of p o c.args.tag w) c.answer.result) c.get_mut.ensures.value (c.answer.ensures _ _)
