-- Numbers in bytes, high byte first.
use Rattle.std.specs.Prelude.{ℕ, ◌+◌, ◌*◌, ◌/◌, ◌%◌, ◌^◌, List, [], ◌∷◌, slice_index}

-- the number in the bytes of a list, from a place on
abbrev pub number16 : List ℕ → ℕ → ℕ
number16 s at = slice_index s at * 2 ^ 8 + slice_index s (at + 1)

abbrev pub number32 : List ℕ → ℕ → ℕ
number32 s at = slice_index s at * 2 ^ 24 + slice_index s (at + 1) * 2 ^ 16 + slice_index s (at + 2) * 2 ^ 8 + slice_index s (at + 3)

abbrev pub number64 : List ℕ → ℕ → ℕ
number64 s at =
    slice_index s at * 2 ^ 56 + slice_index s (at + 1) * 2 ^ 48 + slice_index s (at + 2) * 2 ^ 40 + slice_index s (at + 3) * 2 ^ 32
    + slice_index s (at + 4) * 2 ^ 24 + slice_index s (at + 5) * 2 ^ 16 + slice_index s (at + 6) * 2 ^ 8 + slice_index s (at + 7)

-- the bytes of a number
abbrev pub bytes2 : ℕ → List ℕ
bytes2 n = n / 2 ^ 8 % 256 ∷ n % 256 ∷ []

abbrev pub bytes4 : ℕ → List ℕ
bytes4 n = n / 2 ^ 24 % 256 ∷ n / 2 ^ 16 % 256 ∷ n / 2 ^ 8 % 256 ∷ n % 256 ∷ []

abbrev pub bytes8 : ℕ → List ℕ
bytes8 n =
    n / 2 ^ 56 % 256 ∷ n / 2 ^ 48 % 256 ∷ n / 2 ^ 40 % 256 ∷ n / 2 ^ 32 % 256
    ∷ n / 2 ^ 24 % 256 ∷ n / 2 ^ 16 % 256 ∷ n / 2 ^ 8 % 256 ∷ n % 256 ∷ []
