use Rattle.std.proofs.Common.{◌≡◌, ◌++◌, map, take, drop}
use Rattle.timer.specs.Flight.{settled}
use Rattle.timer.proofs.flight.Flight.settled.Given as goal

abbrev pub invariant-loop-row : goal.invariant-loop-row
invariant-loop-row l = l.row-items ≡ map (settled l.upto) (take l.row-index l.initial.row-items) ++ drop l.row-index l.initial.row-items
