use Rattle.text.proofs.Octets.{SoFar}
use Rattle.text.proofs.data.unescape.Given as goal

abbrev pub invariant-loop-n : goal.invariant-loop-n
invariant-loop-n l = SoFar l.initial.out l.word l.n l.rest l.out
