-- An order of sixteen lanes.
use Rattle.std.specs.Prelude.{◌≡◌, ℕ, zero, suc, ◌<◌, List, [], ◌∷◌, slice_index}

-- every entry is a lane
abbrev pub Low : List ℕ → Type 0
Low xs = (k : ℕ) → slice_index xs k < 16

-- no lane stands at two places
abbrev pub Apart : List ℕ → Type 0
Apart xs = (j k : ℕ) → (j < 16) × (k < 16) × (slice_index xs j ≡ slice_index xs k) → j ≡ k

-- the first n, the last of them first
abbrev pub front : ℕ → List ℕ → List ℕ
front zero xs = []
front (suc n) xs = slice_index xs n ∷ front n xs
