-- A ring of bytes: the byte with place p stands at p % capacity.
use Rattle.std.specs.Prelude.{ℕ, zero, suc, ◌+◌, ◌%◌, List, [], ◌∷◌, slice_index, slice_set}
use Rattle.packet.specs.Sizes.{capacity}

-- the ring after some bytes were written from a place on
unfoldable pub written : ℕ → List ℕ → List ℕ → List ℕ
written p [] m = m
written p (b ∷ bs) m = written (p + 1) bs (slice_set m (p % capacity) b)

-- so many bytes of the ring, from a place on
unfoldable pub held : ℕ → ℕ → List ℕ → List ℕ
held p zero m = []
held p (suc n) m = slice_index m (p % capacity) ∷ held (p + 1) n m
