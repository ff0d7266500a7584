use Rattle.std.proofs.Common.{◌≡◌, ◌+◌, ◌-◌, ◌*◌}
use Rattle.lent.specs.Bits.{AllAre}
use Rattle.lent.proofs.bits.run.Given as goal

abbrev pub invariant-gap : goal.invariant-gap
invariant-gap l = (l.end ≡ l.place + l.most) × AllAre l.place (64 * l.word - l.place) l.value l.bits
