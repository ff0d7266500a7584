-- The waiting time of RFC 6298 in whole ticks: the mean round trip in eighths of a tick, its deviation in quarters.
use Rattle.std.specs.Prelude.{◌≡◌, ℕ, zero, suc, ◌+◌, ◌-◌, ◌*◌, ◌/◌, ◌^◌, ◌≤◌, min, max, List, [], ◌∷◌, Some, None, Option}
use Rattle.timer.specs.declared.measures.Measures.{Measures}

-- waiting times lie between these
abbrev pub shortest : ℕ
shortest = 1000

abbrev pub longest : ℕ
longest = 60000

-- the distance of two numbers: one of the differences is 0
abbrev pub distance : ℕ → ℕ → ℕ
distance a b = (a - b) + (b - a)

abbrev pub first : ℕ → Measures
first r = record { mean = 8 * r; deviation = 2 * r }

abbrev pub later : Measures → ℕ → Measures
later m r = record { mean = m.mean - m.mean / 8 + r; deviation = m.deviation - m.deviation / 4 + distance (m.mean / 8) r }

-- a round trip of so many ticks is measured; it counts as 32 bits at most
abbrev pub measured : Option Measures → ℕ → Option Measures
measured None t = Some (first (min t (2 ^ 32 - 1)))
measured (Some m) t = Some (later m (min t (2 ^ 32 - 1)))

abbrev pub time : Measures → ℕ
time m = min longest (max shortest (m.mean / 8 + max 1 m.deviation))

-- the waiting time set anew
abbrev pub waiting : Option Measures → ℕ
waiting None = shortest
waiting (Some m) = time m

-- the waiting time after a text by the clock
abbrev pub doubled : ℕ → ℕ
doubled wait = min longest (2 * wait)

-- what every waiting time is
abbrev pub Timely : ℕ → Type 0
Timely wait = (shortest ≤ wait) × (wait ≤ longest)

-- the measures and the waiting time after each of some round trips, from none on
abbrev pub course : Option Measures → List ℕ → List (Option Measures × ℕ)
course m [] = []
course m (t ∷ ts) = (measured m t, waiting (measured m t)) ∷ course (measured m t) ts

abbrev pub WorkedMeasures : Type 0
WorkedMeasures = course None (100 ∷ 140 ∷ []) ≡ (Some (record { mean = 800; deviation = 200 }), 1000) ∷ (Some (record { mean = 840; deviation = 190 }), 1000) ∷ []

-- when texts go out by the clock if nothing is confirmed: ticks after the moment from which the waiting time runs
abbrev pub clock_texts : ℕ → ℕ → ℕ → List ℕ
clock_texts zero wait t = []
clock_texts (suc k) wait t = (t + wait) ∷ clock_texts k (doubled wait) (t + wait)

abbrev pub WorkedDoubling : Type 0
WorkedDoubling = clock_texts 8 shortest 0 ≡ 1000 ∷ 3000 ∷ 7000 ∷ 15000 ∷ 31000 ∷ 63000 ∷ 123000 ∷ 183000 ∷ []
