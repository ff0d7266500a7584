use Rattle.hold.specs.World.{Takes}
use Rattle.simulation.proofs.BothSides.{moved, tried_half}
use Rattle.simulation.proofs.OneSide.{put_drawn}
use Rattle.simulation.proofs.pair.Pair.take.Goals as goal

pub returns : goal.returns
returns c = moved c.args.self.now c.args.side _ _ _ _ c.get_mut.ensures.value (tried_half c.get_mut.result.now _ _ _ (λ o. Takes o c.args.tag _) (λ o w. put_drawn o _ _ _ w) c.take.result c.take.ensures)
