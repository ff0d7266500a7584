use Rattle.simulation.proofs.BothSides.{new_shows}
use Rattle.simulation.proofs.pair.Pair.new.Goals as goal

pub returns : goal.returns
returns c = new_shows _ c.args.settings c.new.ensures c.new-2.ensures
