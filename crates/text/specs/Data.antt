-- Bytes as one word: a plain byte stands for itself, any other for `%` and two hex digits.
use Rattle.std.specs.Prelude.{ℕ, zero, suc, ◌+◌, ◌-◌, ◌*◌, ◌/◌, ◌%◌, Bool, true, false, cond, not, ◌&&◌, List, [], ◌∷◌, ◌++◌, length, Ok, Err, Result, ◌==◌, nat_le, nat_lt}
use Rattle.text.specs.Fronts.{Read, and_then, is_digit}

-- most bytes that one word of data stands for
abbrev pub most : ℕ
most = 1024

abbrev pub is_plain : ℕ → Bool
is_plain b = nat_lt 32 b && (nat_lt b 127 && not (b == 37))

abbrev pub hex_of : ℕ → ℕ
hex_of d = cond (nat_lt d 10) (48 + d) (55 + d)

abbrev pub written : ℕ → List ℕ
written b = cond (is_plain b) (b ∷ []) (37 ∷ hex_of (b / 16) ∷ hex_of (b % 16) ∷ [])

unfoldable pub encode : List ℕ → List ℕ
encode [] = []
encode (b ∷ bs) = written b ++ encode bs

abbrev pub nibble : List ℕ → Read ℕ
nibble [] = Err []
nibble (b ∷ bs) = cond (is_digit b) (Ok (b - 48, bs)) (cond (nat_le 65 b && nat_le b 70) (Ok (b - 55, bs)) (Err (b ∷ bs)))

-- behind a `%`; bytes with a first digit from 3 to 6 are plain
abbrev pub escape : List ℕ → Read ℕ
escape bs = and_then (nibble bs) (λ high rest. cond (nat_lt 2 high && nat_lt high 7) (Err bs) (and_then (nibble rest) (λ low behind. cond (is_plain (16 * high + low)) (Err rest) (Ok (16 * high + low, behind)))))

-- one byte of data
abbrev pub octet : List ℕ → Read ℕ
octet [] = Err []
octet (b ∷ bs) = cond (b == 37) (escape bs) (cond (is_plain b) (Ok (b, bs)) (Err (b ∷ bs)))

-- the bytes at the front, at most n of them, and what stands behind
abbrev pub onward : Read ℕ → (List ℕ → List ℕ × List ℕ) → List ℕ → List ℕ × List ℕ
onward (Ok x) go bs = (x.0 ∷ (go x.1).0, (go x.1).1)
onward (Err r) go bs = ([], bs)

unfoldable pub run : ℕ → List ℕ → List ℕ × List ℕ
run zero bs = ([], bs)
run (suc n) bs = onward (octet bs) (run n) bs

abbrev pub is_nil : List ℕ → Bool
is_nil [] = true
is_nil (b ∷ bs) = false

abbrev pub fault_of : Read ℕ → List ℕ
fault_of (Ok x) = x.1
fault_of (Err r) = r

-- a line that is one word of data, some bytes and at most so many
abbrev pub whole : List ℕ → Result (List ℕ) (List ℕ)
whole bs = cond (is_nil (run most bs).1 && nat_lt 0 (length (run most bs).0)) (Ok bs) (Err (cond (length (run most bs).0 == most) (run most bs).1 (fault_of (octet (run most bs).1))))
