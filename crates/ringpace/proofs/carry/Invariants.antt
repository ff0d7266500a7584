use Rattle.std.proofs.Common.{◌≡◌, ◌≤◌, length}
use Rattle.ringpace.proofs.carry.Given as goal

abbrev pub invariant-loop-i : goal.invariant-loop-i
invariant-loop-i l = (l.right ≤ l.i) × (length l.text ≡ 1024) × (length l.packet ≡ 1024) × (length l.out ≡ 1024)
