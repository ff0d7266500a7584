-- What a connection does at a tick, and when it next wants to be woken.
use Rattle.std.specs.Prelude.{ℕ, ◌-◌, min, max, Bool, true, false, cond, not, ◌&&◌, Some, None, Option, nat_lt}
use Rattle.timer.specs.Opening.{repeats, patience, next_moment, tick_after}
use Rattle.pacing.specs.declared.numbers.Numbers.{Numbers}
use Rattle.pacing.specs.declared.numbers.Stage.{Stage}
use Rattle.pacing.specs.declared.numbers.Stage.TheVariants.{Opening, Open, Gone}
use Rattle.pacing.specs.declared.clock.Clock.{Clock}
use Rattle.pacing.specs.declared.tick.Act.{Act}
use Rattle.pacing.specs.declared.tick.Act.TheVariants.{Repeat, GiveUp, Forget, Speak}
use Rattle.pacing.specs.Text.{owes, finished}
use Rattle.pacing.specs.Clock.{late}

abbrev pub quiet : ℕ
quiet = 250000

abbrev pub opening_tick : ℕ → ℕ → Option Act
opening_tick start now = cond (nat_lt (now - start) patience) (cond (repeats start now) (Some Repeat) None) (Some GiveUp)

-- it is finished, and the last packet for it is long past
abbrev pub over : Numbers → ℕ → Clock → Bool
over n now c = finished n && not (nat_lt (now - c.touched) quiet)

abbrev pub open_tick : Numbers → Clock → ℕ → Option Act
open_tick n c now = cond (over n now c) (Some Forget) (cond (late n now c) (Some Speak) None)

abbrev pub tick_in : Stage → Numbers → Clock → ℕ → Option Act
tick_in Opening n c now = opening_tick c.first now
tick_in Open n c now = open_tick n c now
tick_in Gone n c now = None

abbrev pub at_tick : Numbers → Clock → ℕ → Option Act
at_tick n c now = tick_in n.stage n c now

-- so much later than a moment, but not before the next tick
abbrev pub wake_at : ℕ → ℕ → ℕ → ℕ
wake_at now start more = max (tick_after start more) (tick_after now 1)

abbrev pub soonest : Bool → ℕ → Bool → ℕ → Option ℕ
soonest true a true b = Some (min a b)
soonest true a false b = Some a
soonest false a true b = Some b
soonest false a false b = None

abbrev pub open_wake : Numbers → Clock → ℕ → Option ℕ
open_wake n c now = soonest (finished n) (wake_at now c.touched quiet) (owes n) (wake_at now c.since c.wait)

abbrev pub wake_in : Stage → Numbers → Clock → ℕ → Option ℕ
wake_in Opening n c now = Some (next_moment c.first now)
wake_in Open n c now = open_wake n c now
wake_in Gone n c now = None

abbrev pub wake : Numbers → Clock → ℕ → Option ℕ
wake n c now = wake_in n.stage n c now
