use Rattle.std.proofs.Common.{rules}
use Rattle.std.proofs.lemmas.List.{take_all, drop_all}
use Rattle.std.proofs.lemmas.List.Edits.{map_over_more}
use Rattle.timer.specs.Flight.{resent}
use Rattle.timer.proofs.flight.Flight.resent.Goals as goal

pub loop-row-preserved : goal.loop-row-preserved
loop-row-preserved c = search (rules, map_over_more (resent c.args.place c.args.end))

pub returns : goal.returns
returns c = search (rules, take_all, drop_all)
