-- What is written is read back.
use Rattle.std.specs.Prelude.{◌≡◌, ℕ, ◌^◌, ◌<◌, ◌≤◌, false, List, [], ◌∷◌, ◌++◌, length, drop, Ok, decimal}
use Rattle.text.specs.Fronts.{is_digit, number}
use Rattle.text.specs.Data.{most, encode, run}

abbrev pub Bytes : List ℕ → Type 0
Bytes [] = Unit {0}
Bytes (b ∷ bs) = (b < 256) × Bytes bs

-- nothing, or something that is no digit
abbrev pub Stops : List ℕ → Type 0
Stops [] = Unit {0}
Stops (b ∷ bs) = is_digit b ≡ false

abbrev pub NumbersBack : Type 0
NumbersBack = (n limit : ℕ) (rest : List ℕ) → n ≤ limit → limit < 2 ^ 64 → Stops rest → number limit (decimal n ++ rest) ≡ Ok (n, rest)

abbrev pub DataBack : Type 0
DataBack = (bs : List ℕ) → Bytes bs → length bs ≤ most → run most (encode bs) ≡ (bs, [])

-- n bytes at the front of out, decoded from a word
abbrev pub Decoded : List ℕ → ℕ → List ℕ → List ℕ → Type 0
Decoded word n before out = (bs : List ℕ) → Bytes bs → length bs ≤ most → word ≡ encode bs → (n ≡ length bs) × (out ≡ bs ++ drop n before)
