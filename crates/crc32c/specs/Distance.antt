-- How bytes and their check change together.
use Rattle.std.specs.Prelude.{◌≡◌, ℕ, ◌+◌, ◌*◌, ◌^◌, ◌<◌, ◌≤◌, List, [], ◌∷◌, length, ◌≢◌, bit_xor, count_ones}
use Rattle.crc32c.specs.Crc.{Bytes, crc_of}

-- all bits of some bytes as one number: the lowest bit of each byte first, as the check takes them
abbrev pub number_of : List ℕ → ℕ
number_of [] = 0
number_of (b ∷ bs) = number_of bs * 2 ^ 8 + b

-- in how many bits two lists of bytes differ
abbrev pub bits_apart : List ℕ → List ℕ → ℕ
bits_apart [] t = 0
bits_apart (a ∷ s) [] = 0
bits_apart (a ∷ s) (b ∷ t) = count_ones (bit_xor a b) + bits_apart s t

-- s and t differ, and only within a run of up to 32 bits, from one on
pub record OneRun (s t : List ℕ) : Type 0 where
  pub first : ℕ
  pub run : ℕ
  pub some : 0 < run
  pub short : run < 2 ^ 32
  pub differs : bit_xor (number_of s) (number_of t) ≡ run * 2 ^ first

-- such a change changes the check
abbrev pub RunChanges : Type 0
RunChanges = (s t : List ℕ) → Bytes s → Bytes t → length s ≡ length t → OneRun s t → crc_of s ≢ crc_of t

-- Different bytes, up to 1,068 of them, and their checks differ in at least four bits.
abbrev pub FourApart : Type 0
FourApart = (s t : List ℕ) → Bytes s → Bytes t → length s ≡ length t → length s ≤ 1068 → 0 < bits_apart s t → 4 ≤ bits_apart s t + count_ones (bit_xor (crc_of s) (crc_of t))
