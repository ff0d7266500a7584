use Rattle.std.proofs.Common.{◌-◌, ◌*◌, min}
use Rattle.lent.specs.Bits.{Marked}
use Rattle.lent.proofs.bits.mark.Given as goal

abbrev pub invariant-loop-word : goal.invariant-loop-word
invariant-loop-word l = Marked l.place (min l.n (64 * l.word - l.place)) l.value l.initial.bits l.bits
