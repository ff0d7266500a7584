-- Texts with bytes that are under way.
use Rattle.std.specs.Prelude.{ℕ, ◌-◌, Bool, false, cond, not, ◌&&◌, List, [], ◌∷◌, map, drop, Option, nat_lt, slice_index_or, fold}
use Rattle.timer.specs.declared.measures.Measures.{Measures}
use Rattle.timer.specs.declared.flight.Row.{Row}
use Rattle.timer.specs.Measure.{measured}

-- nothing under way
abbrev pub blank : Row
blank = record { place = 0; end = 0; time = 0; clean = false }

abbrev pub unclean : Row → Row
unclean r = record r { clean = false }

-- whether a row has a byte in common with the bytes from p to e
abbrev pub shares : ℕ → ℕ → Row → Bool
shares p e r = nat_lt r.place e && nat_lt p r.end

-- sixteen are under way: the lowest end isn't confirmed
abbrev pub full : ℕ → List Row → Bool
full upto rs = nat_lt upto (slice_index_or rs 0 blank).end

-- a row, when the bytes from p to e are sent
abbrev pub resent : ℕ → ℕ → Row → Row
resent p e r = cond (shares p e r) (unclean r) r

-- a row, when so much is confirmed: it is measured once
abbrev pub settled : ℕ → Row → Row
settled upto r = cond (nat_lt upto r.end) r (unclean r)

-- into rows in the order of their ends
unfoldable pub insert : Row → List Row → List Row
insert x [] = x ∷ []
insert x (y ∷ ys) = cond (nat_lt x.end y.end) (x ∷ y ∷ ys) (y ∷ insert x ys)

-- a row more; the one with the lowest end is left out
abbrev pub pushed : Row → List Row → List Row
pushed x ys = drop 1 (insert x ys)

-- the rows after a text with the bytes from p to e is sent at a tick; high: the bytes below it were sent before
abbrev pub sent_rows : ℕ → ℕ → ℕ → ℕ → List Row → List Row
sent_rows high p e now rs = pushed (record { place = p; end = e; time = now; clean = not (nat_lt p high) }) (map (resent p e) rs)

-- the measures after so much is confirmed: a row that is clean and confirmed is measured
abbrev pub measured_one : ℕ → ℕ → Option Measures → Row → Option Measures
measured_one upto now m r = cond (r.clean && not (nat_lt upto r.end)) (measured m (now - r.time)) m

-- rows are measured in their order
abbrev pub measured_by : ℕ → ℕ → Option Measures → List Row → Option Measures
measured_by upto now m rs = fold (measured_one upto now) m rs
