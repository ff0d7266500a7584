use Rattle.std.proofs.Common.{◌≡◌, ◌++◌, drop, vec_items}
use Rattle.script.specs.Show.{counted}
use Rattle.script.proofs.print.push_numbers.Given as goal

abbrev pub invariant-loop-number : goal.invariant-loop-number
invariant-loop-number l = vec_items l.out ++ counted (drop l.number-index l.numbers) ≡ vec_items l.initial.out ++ counted l.numbers
