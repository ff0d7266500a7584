-- What stands at the front of a line: a word, a number.
use Rattle.std.specs.Prelude.{ℕ, ◌+◌, ◌-◌, ◌*◌, Bool, cond, ◌&&◌, List, [], ◌∷◌, Ok, Err, Result, ◌==◌, nat_le}
use Rattle.std.specs.Borrow.{Bor}

-- what was read with what stands behind it; or the rest of the line from the first byte at which it can't go on
abbrev pub Read : Type 0 → Type 0
Read A = Result (A × List ℕ) (List ℕ)

-- what follows what was read
abbrev pub and_then : {A B : Type 0} → Read A → (A → List ℕ → Result B (List ℕ)) → Result B (List ℕ)
and_then (Ok x) f = f x.0 x.1
and_then (Err r) f = Err r

-- the lists that slices hold
abbrev pub left : Result (Bor (List ℕ)) (Bor (List ℕ)) → Result (List ℕ) (List ℕ)
left (Ok r) = Ok r.now
left (Err r) = Err r.now

abbrev pub seen : {A : Type 0} → Result (A × Bor (List ℕ)) (Bor (List ℕ)) → Read A
seen (Ok x) = Ok (x.0, x.1.now)
seen (Err r) = Err r.now

-- what stands behind a word
unfoldable pub strip : List ℕ → List ℕ → Result (List ℕ) (List ℕ)
strip [] bs = Ok bs
strip (w ∷ ws) [] = Err []
strip (w ∷ ws) (b ∷ bs) = cond (b == w) (strip ws bs) (Err (b ∷ bs))

abbrev pub is_digit : ℕ → Bool
is_digit b = nat_le 48 b && nat_le b 57

-- n and the digits that follow
unfoldable pub digits : ℕ → ℕ → List ℕ → Read ℕ
digits most n [] = Ok (n, [])
digits most n (b ∷ bs) = cond (is_digit b) (cond (nat_le (10 * n + (b - 48)) most) (digits most (10 * n + (b - 48)) bs) (Err (b ∷ bs))) (Ok (n, b ∷ bs))

-- a number has no leading zero, so nothing of it stands behind a zero
abbrev pub number : ℕ → List ℕ → Read ℕ
number most [] = Err []
number most (b ∷ bs) = cond (is_digit b) (cond (b == 48) (Ok (0, bs)) (digits most 0 (b ∷ bs))) (Err (b ∷ bs))

-- the first line, without its line feed, and what stands behind that
unfoldable pub split_line : List ℕ → List ℕ × List ℕ
split_line [] = ([], [])
split_line (b ∷ bs) = cond (b == 10) ([], bs) (b ∷ (split_line bs).0, (split_line bs).1)
