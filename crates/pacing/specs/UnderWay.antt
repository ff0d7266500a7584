-- A connection that sends by these rules: its sixteen rows say of all texts under way what is wanted of them.
use Rattle.std.specs.Prelude.{◌≡◌, ℕ, ◌<◌, cond, List, [], ◌∷◌, length, Some, Option, nat_lt}
use Rattle.timer.specs.Enough.{Way, Move, Sends, Clears, Confirms, way_after, Enough}
use Rattle.pacing.specs.declared.numbers.Choice.{Choice}
use Rattle.pacing.specs.declared.numbers.Numbers.{Numbers}
use Rattle.pacing.specs.declared.next.Pending.{Pending}
use Rattle.pacing.specs.Text.{end_of}
use Rattle.pacing.specs.Clock.{is_clock}
use Rattle.pacing.specs.Next.{new_text, next_text}
use Rattle.pacing.specs.Promises.{Happens, Came, Opened, Owing, Heard, Sent, clock_after}

abbrev pub confirmed : ℕ → ℕ → List Move → List Move
confirmed before upto ms = cond (nat_lt before upto) (Confirms upto ∷ ms) ms

abbrev pub cleared : Choice → List Move → List Move
cleared t ms = cond (is_clock t.why) (Clears ∷ ms) ms

abbrev pub sending : Numbers → Choice → ℕ → List Move → List Move
sending n t now ms = cond (nat_lt t.place (end_of n t)) (Sends t.place (end_of n t) now ∷ ms) ms

abbrev pub move_by : Happens → List Move → List Move
move_by (Came now) ms = ms
move_by (Opened now) ms = ms
move_by (Owing before after now) ms = ms
move_by (Heard before upto now) ms = confirmed before upto ms
move_by (Sent n t now) ms = sending n t now (cleared t ms)

-- what became of the texts under way by all that happened, the latest first
unfoldable pub moves_of : List Happens → List Move
moves_of [] = []
moves_of (h ∷ hs) = move_by h (moves_of hs)

-- all rows, as they are after that
abbrev pub way : List Happens → Way
way hs = way_after (moves_of hs)

-- what is sent is the next text at some moment, and upto is what was heard
abbrev pub ByRule : ℕ → Happens → List Happens → Type 0
ByRule start (Came now) hs = Unit
ByRule start (Opened now) hs = Unit
ByRule start (Owing before after now) hs = Unit
ByRule start (Heard before upto now) hs = before ≡ (way hs).upto
ByRule start (Sent n t now) hs = (n.upto ≡ (way hs).upto) × ((p : Option Pending) × (next_text n (clock_after start hs) p now ≡ Some t))

unfoldable pub Ruled : ℕ → List Happens → Type 0
Ruled start [] = Unit
Ruled start (h ∷ hs) = ByRule start h hs × Ruled start hs

abbrev pub RowsEnough : Type 0
RowsEnough = (start : ℕ) (hs : List Happens) → Ruled start hs → Enough (way hs) (clock_after start hs).flight.rows

-- fewer than sixteen are under way when a new text goes out
abbrev pub NewWhenFew : Type 0
NewWhenFew = (start : ℕ) (hs : List Happens) (n : Numbers) (t : Choice) → Ruled start hs → n.upto ≡ (way hs).upto → new_text n (clock_after start hs) ≡ Some t → length (way hs).rows < 16
