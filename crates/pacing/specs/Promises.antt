-- What the rules come to, in the words of their subject.
use Rattle.std.specs.Prelude.{◌≡◌, ℕ, ◌+◌, ◌<◌, ◌≤◌, max, Bool, true, false, ◌⊎◌, List, [], ◌∷◌, Some, None, Option, ◌≢◌}
use Rattle.timer.specs.Measure.{longest, doubled, Timely}
use Rattle.timer.specs.Opening.{last_tick, among, again, patience}
use Rattle.pacing.specs.declared.numbers.Choice.{Choice}
use Rattle.pacing.specs.declared.numbers.Numbers.{Numbers}
use Rattle.pacing.specs.declared.numbers.Stage.{Stage}
use Rattle.pacing.specs.declared.numbers.Why.{Why}
use Rattle.pacing.specs.declared.clock.Clock.{Clock}
use Rattle.pacing.specs.declared.next.Pending.{Pending}
use Rattle.pacing.specs.declared.tick.Act.{Act}
use Rattle.pacing.specs.Text.{is_open, owes, finished, count, end_of, is_last, due, answer}
use Rattle.pacing.specs.Clock.{made, came, restarted, owing, heard, sent_text}
use Rattle.pacing.specs.Next.{asked, new_text, up_to_date, next_text}
use Rattle.pacing.specs.Tick.{at_tick, wake, quiet}

-- what happens to a clock
pub data Happens : Type 0 where
  Came : ℕ → Happens
  Opened : ℕ → Happens
  Owing : Numbers → Numbers → ℕ → Happens
  Heard : ℕ → ℕ → ℕ → Happens
  Sent : Numbers → Choice → ℕ → Happens

abbrev pub happened : Happens → Clock → Clock
happened (Came now) c = came now c
happened (Opened now) c = restarted now c
happened (Owing before after now) c = owing before after now c
happened (Heard before upto now) c = heard before upto now c
happened (Sent n t now) c = sent_text n t now c

-- the clock of a connection that was made at a tick, after all that happened, the latest first
unfoldable pub clock_after : ℕ → List Happens → Clock
clock_after start [] = made start
clock_after start (h ∷ hs) = happened h (clock_after start hs)

abbrev pub AlwaysTimely : Type 0
AlwaysTimely = (start : ℕ) (hs : List Happens) → Timely (clock_after start hs).wait

-- one that owes is due at the latest so long after the moment from which its waiting time runs
abbrev pub OwesSpeaks : Type 0
OwesSpeaks = (n : Numbers) (start : ℕ) (hs : List Happens) (now : ℕ) → owes n ≡ true → (clock_after start hs).since + longest ≤ now → next_text n (clock_after start hs) (Some Pending.Tick) now ≡ Some (due n Why.Clock)

-- what goes out by the clock has bytes or last, no more being confirmed than was given
abbrev pub ClockCarries : Type 0
ClockCarries = (n : Numbers) (c : Clock) (now : ℕ) (t : Choice) → n.upto ≤ n.given → next_text n c (Some Pending.Tick) now ≡ Some t → (0 < count n t) ⊎ (is_last n t ≡ true)

-- and it starts the waiting time again, doubled
abbrev pub ClockRestarts : Type 0
ClockRestarts = (n : Numbers) (c : Clock) (now : ℕ) (t : Choice) → n.upto ≤ n.given → next_text n c (Some Pending.Tick) now ≡ Some t → ((sent_text n t now c).since ≡ now) × ((sent_text n t now c).wait ≡ doubled c.wait)

-- a text that had bytes or last is answered at once
abbrev pub Answered : Type 0
Answered = (n : Numbers) (c : Clock) (grew : Bool) (now : ℕ) → is_open n.stage ≡ true → next_text n c (asked true grew) now ≡ Some (answer n)

-- after any text, edge and all are said as they are
abbrev pub SaysAll : Type 0
SaysAll = (n : Numbers) (c : Clock) (t : Choice) (now : ℕ) → up_to_date n (sent_text n t now c) ≡ true

-- one that owes nothing and is asked nothing sends nothing
abbrev pub Silent : Type 0
Silent = (n : Numbers) (c : Clock) (now : ℕ) → (next_text n c None now ≡ None) × (owes n ≡ false → next_text n c (Some Pending.Tick) now ≡ None)

-- no byte of an answer or of a new text is at or beyond what is seen, and one of a due text at most
abbrev pub BelowSees : Type 0
BelowSees = (n : Numbers) (c : Clock) → ((0 < count n (answer n) → end_of n (answer n) ≤ n.sees)
    × ((t : Choice) → new_text n c ≡ Some t → 0 < count n t → end_of n t ≤ n.sees))
    × ((why : Why) → end_of n (due n why) ≤ max n.sees (n.upto + 1))

-- a tick before a moment, if there is one
abbrev pub Before : ℕ → Option ℕ → Type 0
Before t None = Unit
Before t (Some w) = t < w

-- nothing happens before it wants to be woken
abbrev pub Sleeps : Type 0
Sleeps = (n : Numbers) (c : Clock) (now t : ℕ) → Timely c.wait → now < t → t ≤ last_tick → Before t (wake n c now) → at_tick n c t ≡ None

-- something happens then
abbrev pub Wakes : Type 0
Wakes = (n : Numbers) (c : Clock) (now w : ℕ) → wake n c now ≡ Some w → w < last_tick → (now < w) × (at_tick n c w ≢ None)

-- a finished one is forgotten so long after the last packet for it
abbrev pub Finished : Type 0
Finished = (n : Numbers) (c : Clock) (now : ℕ) → is_open n.stage ≡ true →
    (finished n ≡ true → c.touched + quiet ≤ now → at_tick n c now ≡ Some Act.Forget) × (at_tick n c now ≡ Some Act.Forget → (finished n ≡ true) × (c.touched + quiet ≤ now))

-- one that isn't open sends its ask or yes again at the moments for that, and is given up after 160,000 ticks
abbrev pub OpeningMoments : Type 0
OpeningMoments = (n : Numbers) (c : Clock) (later : ℕ) → n.stage ≡ Stage.Opening →
    (among later again ≡ true → at_tick n c (c.first + later) ≡ Some Act.Repeat) × (at_tick n c (c.first + later) ≡ Some Act.Repeat → among later again ≡ true) × (patience ≤ later → at_tick n c (c.first + later) ≡ Some Act.GiveUp)
