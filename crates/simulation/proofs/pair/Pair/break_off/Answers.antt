use Rattle.simulation.proofs.BothSides.{moved}
use Rattle.simulation.proofs.pair.Pair.break_off.Goals as goal

pub returns : goal.returns
returns c = moved c.args.self.now c.args.side _ _ _ _ c.get_mut.ensures.value (c.break_off.ensures _ _)
