use Rattle.std.proofs.Common.{◌≡◌, ◌++◌, map, take, drop}
use Rattle.hold.specs.World.{End}
use Rattle.endpoint.specs.Stands.{Stands}
use Rattle.ledger.specs.Books.{noted_in}
use Rattle.party.proofs.calls.note_all.Given as goal

abbrev pub invariant-loop-account : goal.invariant-loop-account
invariant-loop-account l = (e : End) → Stands l.end e → l.account-items ≡ map (noted_in e.conns) (take l.account-index l.initial.account-items) ++ drop l.account-index l.initial.account-items
