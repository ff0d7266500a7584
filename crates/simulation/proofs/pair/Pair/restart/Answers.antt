use Rattle.simulation.proofs.BothSides.{new_shows}
use Rattle.simulation.proofs.pair.Pair.restart.Goals as goal

pub returns : goal.returns
returns c = new_shows _ c.args.settings c.restart.ensures c.restart-2.ensures
