-- Sixteen rows are enough: they tell whether fewer than sixteen texts are under way, and give the same measures, as all rows would.
use Rattle.std.specs.Prelude.{◌≡◌, ℕ, ◌<◌, ◌≤◌, max, not, ◌⊎◌, List, [], ◌∷◌, ◌++◌, map, length, replicate, Option, nat_lt, filter}
use Rattle.timer.specs.declared.measures.Measures.{Measures}
use Rattle.timer.specs.declared.flight.Row.{Row}
use Rattle.timer.specs.Flight.{blank, resent, settled, sent_rows, full, measured_by}

-- a connection's way out: how much is confirmed, the bytes sent are those below high, and all rows under way, the oldest first
pub record Way : Type 0 where
  pub upto : ℕ
  pub high : ℕ
  pub rows : List Row

pub data Move : Type 0 where
  -- a text with the bytes from a place to an end goes out at a tick
  Sends : ℕ → ℕ → ℕ → Move
  -- a text goes out by the clock: nothing counts as under way any more
  Clears : Move
  -- so much is confirmed
  Confirms : ℕ → Move

-- the rows that aren't confirmed
abbrev pub beyond : ℕ → List Row → List Row
beyond u rs = filter (λ r. nat_lt u r.end) rs

abbrev pub moved : Move → Way → Way
moved (Sends p e now) w = record w { high = max w.high e; rows = map (resent p e) w.rows ++ record { place = p; end = e; time = now; clean = not (nat_lt p w.high) } ∷ [] }
moved Clears w = record w { rows = [] }
moved (Confirms u) w = record w { upto = max w.upto u; rows = beyond (max w.upto u) w.rows }

-- sixteen rows at the same moves
abbrev pub held : Move → Way → List Row → List Row
held (Sends p e now) w ks = sent_rows w.high p e now ks
held Clears w ks = replicate 16 blank
held (Confirms u) w ks = map (settled (max w.upto u)) ks

unfoldable pub way_after : List Move → Way
way_after [] = record { upto = 0; high = 0; rows = [] }
way_after (m ∷ ms) = moved m (way_after ms)

unfoldable pub held_after : List Move → List Row
held_after [] = replicate 16 blank
held_after (m ∷ ms) = held m (way_after ms) (held_after ms)

-- a text with bytes begins with the first byte that isn't confirmed, or it goes out while fewer than sixteen are under way
abbrev pub Allowed : Move → Way → Type 0
Allowed (Sends p e now) w = (w.upto ≤ p) × (p < e) × ((p ≡ w.upto) ⊎ (length w.rows < 16))
Allowed Clears w = Unit
Allowed (Confirms u) w = Unit

unfoldable pub Lawful : List Move → Type 0
Lawful [] = Unit
Lawful (m ∷ ms) = Allowed m (way_after ms) × Lawful ms

pub record Enough (w : Way) (ks : List Row) : Type 0 where
  pub few : full w.upto ks ≡ not (nat_lt (length w.rows) 16)
  pub measures : (upto now : ℕ) (m : Option Measures) → measured_by upto now m w.rows ≡ measured_by upto now m ks

abbrev pub SixteenSuffice : Type 0
SixteenSuffice = (ms : List Move) → Lawful ms → Enough (way_after ms) (held_after ms)
