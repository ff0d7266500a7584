-- The lanes in use as a list, and what becomes of it.
use Rattle.std.specs.Prelude.{◌≡◌, ℕ, ◌<◌, Bool, false, cond, ◌||◌, List, [], ◌∷◌, length, Some, None, Option, ◌==◌, slice_index}
use Rattle.lanes.specs.Order.{front}
use Rattle.lanes.specs.declared.Lanes.{Lanes}

-- the lanes in use, the youngest first
abbrev pub used : Lanes → List ℕ
used x = front x.count x.order

abbrev pub is_in : ℕ → List ℕ → Bool
is_in l [] = false
is_in l (k ∷ ks) = k == l || is_in l ks

-- each is a lane, and none is twice there
abbrev pub Separate : List ℕ → Type 0
Separate [] = Unit {0}
Separate (k ∷ ks) = (k < 16) × (is_in k ks ≡ false) × Separate ks

-- the first that is l is taken out
abbrev pub without : ℕ → List ℕ → List ℕ
without l [] = []
without l (k ∷ ks) = cond (k == l) ks (k ∷ without l ks)

-- one more lane, that was free; or none was
abbrev pub Added : Lanes → Lanes → Option ℕ → Type 0
Added x y None = (y ≡ x) × (length (used x) ≡ 16)
Added x y (Some l) = (used y ≡ l ∷ used x) × (l < 16) × (is_in l (used x) ≡ false)

-- the place of a lane in use; or it is not in use
abbrev pub Placed : Lanes → ℕ → Option ℕ → Type 0
Placed x l None = is_in l (used x) ≡ false
Placed x l (Some i) = (i < x.count) × (slice_index x.order i ≡ l)
