use Rattle.std.proofs.Common.{◌≡◌, ◌≤◌, drop}
use Rattle.text.specs.Fronts.{digits}
use Rattle.text.proofs.front.digits.Given as goal

abbrev pub invariant-loop-i : goal.invariant-loop-i
invariant-loop-i l = (l.n ≤ l.most) × (digits l.most l.n (drop l.i l.line) ≡ digits l.most 0 l.line)
