use Rattle.simulation.proofs.BothSides.{gave_half, moved}
use Rattle.simulation.proofs.pair.Pair.give.Goals as goal

pub returns : goal.returns
returns c = moved c.args.self.now c.args.side _ _ _ _ c.get_mut.ensures.value (gave_half c.get_mut.result.now _ _ _ c.args.tag c.args.bytes.now c.give.result c.give.ensures)
