-- A text that is written where nothing is marked.
use Rattle.std.specs.Prelude.{◌≡◌, ℕ, ◌+◌, ◌-◌, ◌%◌, ◌<◌, ◌≤◌, true, false, List, length, slice_index}
use Rattle.packet.specs.Sizes.{capacity}
use Rattle.lent.specs.Bits.{up, Marked}

-- n bytes of a text, from a place on: those at places that were not marked are written, all those places are marked, and all else stays
pub record Filled (place n : ℕ) (text ring bits ring' bits' : List ℕ) : Type 0 where
  pub size : length ring' ≡ length ring
  pub marked : Marked place n true bits bits'
  pub new : (p : ℕ) → place ≤ p → p < place + n → up bits p ≡ false → slice_index ring' (p % capacity) ≡ slice_index text (p - place)
  pub same : (p : ℕ) → place ≤ p → p < place + n → up bits p ≡ true → slice_index ring' (p % capacity) ≡ slice_index ring (p % capacity)
  pub rest : (p : ℕ) → place + n ≤ p → p < place + capacity → slice_index ring' (p % capacity) ≡ slice_index ring (p % capacity)
