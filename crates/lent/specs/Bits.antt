-- Which places of a ring are marked: a bit for each, 64 to a word.
use Rattle.std.specs.Prelude.{◌≡◌, ℕ, ◌+◌, ◌/◌, ◌%◌, ◌^◌, ◌<◌, ◌≤◌, Bool, cond, List, ◌==◌, nat_lt, slice_index}
use Rattle.packet.specs.Sizes.{capacity}

-- bit j of a word
unfoldable pub bit : ℕ → ℕ → Bool
bit w j = w / 2 ^ j % 2 == 1

-- whether the bit of a place is up
unfoldable pub up : List ℕ → ℕ → Bool
up ws p = bit (slice_index ws (p % capacity / 64)) (p % 64)

-- the bits of n places, from a place on, are as v says, and all others as they were; a round begins at the place
abbrev pub Marked : ℕ → ℕ → Bool → List ℕ → List ℕ → Type 0
Marked place n v before after = (p : ℕ) → place ≤ p → p < place + capacity → up after p ≡ cond (nat_lt p (place + n)) v (up before p)

-- so are the bits of n places
abbrev pub AllAre : ℕ → ℕ → Bool → List ℕ → Type 0
AllAre place n v ws = (p : ℕ) → place ≤ p → p < place + n → up ws p ≡ v
