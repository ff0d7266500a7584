use Rattle.std.proofs.Common.{rules}
use Rattle.std.proofs.lemmas.List.{take_all, drop_all}
use Rattle.std.proofs.lemmas.List.Edits.{map_over_more}
use Rattle.timer.specs.Flight.{settled}
use Rattle.timer.proofs.flight.Flight.settled.Goals as goal

pub loop-row-preserved : goal.loop-row-preserved
loop-row-preserved c = search (rules, map_over_more (settled c.args.upto))

pub returns : goal.returns
returns c = search (rules, take_all, drop_all)
