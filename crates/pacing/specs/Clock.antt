-- A connection's clock: what each thing that happens does to it.
use Rattle.std.specs.Prelude.{ℕ, ◌-◌, min, max, Bool, true, false, cond, not, ◌&&◌, map, replicate, Some, None, nat_lt}
use Rattle.timer.specs.Measure.{shortest, waiting, doubled}
use Rattle.timer.specs.Flight.{blank, sent_rows, settled, measured_by}
use Rattle.timer.specs.declared.flight.Flight.{Flight}
use Rattle.pacing.specs.declared.numbers.Choice.{Choice}
use Rattle.pacing.specs.declared.numbers.Numbers.{Numbers}
use Rattle.pacing.specs.declared.numbers.Why.{Why}
use Rattle.pacing.specs.declared.numbers.Why.TheVariants.{Answer, New, Due}
use Rattle.pacing.specs.declared.clock.Clock.{Clock}
use Rattle.pacing.specs.Text.{owes, end_of, is_last}

abbrev pub nothing : Flight
nothing = record { rows = replicate 16 blank }

abbrev pub made : ℕ → Clock
made now = record { first = now; touched = now; sent = 0; high = 0; ended = false; said = None; flight = nothing; measures = None; wait = shortest; since = now }

abbrev pub came : ℕ → Clock → Clock
came now c = record c { touched = now }

-- the waiting time runs from now on
abbrev pub restarted : ℕ → Clock → Clock
restarted now c = record c { since = now }

-- it came to owe by what its user did
abbrev pub owing : Numbers → Numbers → ℕ → Clock → Clock
owing before after now c = cond (not (owes before) && owes after) (restarted now c) c

-- upto was `before` and is `upto`
abbrev pub heard : ℕ → ℕ → ℕ → Clock → Clock
heard before upto now c = cond (nat_lt before upto) (record c { flight = record { rows = map (settled upto) c.flight.rows }; measures = measured_by upto now c.measures c.flight.rows; wait = waiting (measured_by upto now c.measures c.flight.rows); since = now }) c

-- whether a text goes out by the clock
abbrev pub is_clock : Why → Bool
is_clock Answer = false
is_clock New = false
is_clock Due = false
is_clock Why.Clock = true

abbrev pub by_clock : Clock → Clock
by_clock c = record c { flight = nothing; wait = doubled c.wait }

-- a text with the bytes from p to e goes out
abbrev pub with_bytes : ℕ → ℕ → ℕ → ℕ → Clock → Clock
with_bytes sees p e now c = record c { sent = max c.sent (min e sees); high = max c.high e; flight = record { rows = sent_rows c.high p e now c.flight.rows }; since = now }

abbrev pub with_last : ℕ → Clock → Clock
with_last now c = record c { ended = true; since = now }

-- what the last text said
abbrev pub saying : Numbers → Clock → Clock
saying n c = record c { said = Some (record { edge = n.edge; all = n.reached }) }

abbrev pub sent_text : Numbers → Choice → ℕ → Clock → Clock
sent_text n t now c =
    let a = saying n c in
    let b = cond (is_clock t.why) (by_clock a) a in
    let d = cond (nat_lt t.place (end_of n t)) (with_bytes n.sees t.place (end_of n t) now b) b in
    cond (is_last n t) (with_last now d) d

-- one that owes, and the waiting time has passed
abbrev pub late : Numbers → ℕ → Clock → Bool
late n now c = owes n && not (nat_lt (now - c.since) c.wait)
