use Rattle.std.proofs.Common.{◌≡◌, ◌++◌, map, take, drop}
use Rattle.timer.specs.Flight.{resent}
use Rattle.timer.proofs.flight.Flight.resent.Given as goal

abbrev pub invariant-loop-row : goal.invariant-loop-row
invariant-loop-row l = l.row-items ≡ map (resent l.place l.end) (take l.row-index l.initial.row-items) ++ drop l.row-index l.initial.row-items
