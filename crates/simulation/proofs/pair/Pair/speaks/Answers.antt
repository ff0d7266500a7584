use Rattle.std.proofs.Common.{rules}
use Rattle.hold.specs.World.{end}
use Rattle.simulation.specs.Shows.{who_of}
use Rattle.simulation.proofs.Moving.{speaks_so}
use Rattle.simulation.proofs.pair.Pair.speaks.Goals as goal

pub returns : goal.returns
returns c cfg w s = speaks_so c.args.tag (end (who_of c.args.side) w).conns c.look.result _ _ (c.look.ensures cfg w s) c.is_some_and.ensures (λ v p. search rules)
