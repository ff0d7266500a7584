-- The worked cases, computed. Assumes nothing.
use Rattle.std.proofs.Common.{refl}
use Rattle.hold.specs.Packet.{has, byte_at}
use Rattle.hold.specs.Conn.{keep, turn, from}
use Rattle.hold.specs.World.{world, is_in, by_tag, by_theirs, change, hears_nth}
use Rattle.hold.specs.Self.{made, on_nth}
use Rattle.hold.specs.Cases.{WorkedCases, briefs}

pub worked_cases_lem : WorkedCases
unfolding briefs world is_in by_tag by_theirs change hears_nth made on_nth has byte_at keep turn from
worked_cases_lem = refl
