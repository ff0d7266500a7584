-- The texts of a connection, over its numbers.
use Rattle.std.specs.Prelude.{ℕ, ◌+◌, ◌-◌, min, max, Bool, true, false, not, ◌&&◌, ◌||◌, ◌==◌, nat_lt}
use Rattle.pacing.specs.declared.numbers.Stage.{Stage}
use Rattle.pacing.specs.declared.numbers.Stage.TheVariants.{Opening, Open, Gone}
use Rattle.pacing.specs.declared.numbers.Why.{Why}
use Rattle.pacing.specs.declared.numbers.Why.TheVariants.{Answer}
use Rattle.pacing.specs.declared.numbers.Choice.{Choice}
use Rattle.pacing.specs.declared.numbers.Numbers.{Numbers}

abbrev pub is_open : Stage → Bool
is_open Opening = false
is_open Open = true
is_open Gone = false

-- something is given, or closed, and not confirmed
abbrev pub owes : Numbers → Bool
owes n = is_open n.stage && (nat_lt n.upto n.given || n.closed && not n.all)

-- both ways are at their ends and the user knows
abbrev pub finished : Numbers → Bool
finished n = is_open n.stage && (n.reached && n.taken == n.got && n.told) && n.closed && n.all

-- how many bytes a text has: no more than there are
abbrev pub count : Numbers → Choice → ℕ
count n t = min t.most (n.given - t.place)

abbrev pub end_of : Numbers → Choice → ℕ
end_of n t = t.place + count n t

abbrev pub is_last : Numbers → Choice → Bool
is_last n t = n.closed && not n.all && end_of n t == n.given

abbrev pub due : Numbers → Why → Choice
due n why = record { place = n.upto; most = max 1 (min n.size (n.sees - n.upto)); why = why }

abbrev pub answer : Numbers → Choice
answer n = record { place = n.upto; most = min n.size (n.sees - n.upto); why = Answer }
