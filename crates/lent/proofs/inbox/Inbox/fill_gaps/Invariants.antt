use Rattle.std.proofs.Common.{◌-◌, ◌≤◌}
use Rattle.lent.specs.Gaps.{Filled}
use Rattle.lent.proofs.inbox.Inbox.fill_gaps.Given as goal

abbrev pub invariant-loop-done : goal.invariant-loop-done
invariant-loop-done l = (l.done ≤ l.n) × Filled l.place l.done l.text l.initial.self.ring l.initial.self.bits l.self.ring l.self.bits

abbrev pub decreases-loop-done : goal.decreases-loop-done
decreases-loop-done l = l.n - l.done
