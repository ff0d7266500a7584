use Rattle.hold.specs.World.{Listens}
use Rattle.simulation.proofs.BothSides.{acts_half, moved}
use Rattle.simulation.proofs.OneSide.{put_drawn}
use Rattle.simulation.proofs.pair.Pair.listen.Goals as goal

pub returns : goal.returns
returns c = moved c.args.self.now c.args.side _ _ _ _ c.get_mut.ensures.value (acts_half c.get_mut.result.now _ _ _ (λ o. Listens o c.args.on) (λ o w. put_drawn o _ _ _ w) c.listen.ensures)
