-- When an ask or a yes goes out, and when a connection that isn't open is given up: ticks after the first.
use Rattle.std.specs.Prelude.{◌≡◌, ℕ, ◌+◌, ◌-◌, ◌*◌, ◌^◌, min, Bool, false, cond, ◌||◌, List, [], ◌∷◌, map, ◌==◌, nat_lt, find, unwrap_or}

-- the moments at which it goes out again
abbrev pub again : List ℕ
again = 1000 ∷ 3000 ∷ 7000 ∷ 15000 ∷ 31000 ∷ 63000 ∷ 127000 ∷ []

abbrev pub patience : ℕ
patience = 160000

abbrev pub among : ℕ → List ℕ → Bool
among t [] = false
among t (m ∷ ms) = t == m || among t ms

abbrev pub repeats : ℕ → ℕ → Bool
repeats start now = among (now - start) again

-- the first of some moments, in their order, that comes after t, or else d
abbrev pub first_after : ℕ → List ℕ → ℕ → ℕ
first_after t ms d = unwrap_or (find (nat_lt t) ms) d

-- ticks have 64 bits
abbrev pub last_tick : ℕ
last_tick = 2 ^ 64 - 1

abbrev pub tick_after : ℕ → ℕ → ℕ
tick_after a b = min last_tick (a + b)

-- the next moment at which it goes out again or is given up; the next tick, where that time has passed
abbrev pub next_moment : ℕ → ℕ → ℕ
next_moment start now = tick_after start (first_after (now - start) again (cond (nat_lt (now - start) patience) patience (now - start + 1)))

-- the first, and those after 1, 3, 7, .. seconds: eight in all
abbrev pub EightMoments : Type 0
EightMoments = (0 ∷ again ≡ map (λ k. 1000 * (2 ^ k - 1)) (0 ∷ 1 ∷ 2 ∷ 3 ∷ 4 ∷ 5 ∷ 6 ∷ 7 ∷ [])) × ((start later : ℕ) → repeats start (start + later) ≡ among later again)
