use Rattle.std.proofs.Common.{◌-◌}
use Rattle.simulation.specs.Carry.{UpTo}
use Rattle.simulation.specs.Shows.{who_of}
use Rattle.simulation.proofs.pair.Pair.rounds.Given as goal

abbrev pub invariant-loop : goal.invariant-loop
invariant-loop l = UpTo l.initial.self l.self l.most (l.most - l.counter) (who_of l.side) l.tag l.peer l.moves
