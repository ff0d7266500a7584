-- Maps over bits: a computed test, by elimination, that a linear map makes 0 of nothing but 0.
use Rattle.std.proofs.Common.{◌≡◌, ℕ, zero, suc, ◌+◌, ◌*◌, ◌/◌, ◌%◌, ◌^◌, ◌<◌, Bool, true, cond, ◌&&◌, eqb, sym, ap, ◌∙◌, inl, inr, ⊎_elim, one-mul, pow-suc, zero-mul, arith}
use lib.Bits.{bit_xor, xor_shr, xor_mod, xor_zero_r, xor_zero_l, xor_self, xor_shifted, xor_block}
use Rattle.std.proofs.lemmas.Bool.{and_parts, eqb-true}
use Rattle.crc32c.proofs.Linear.{swap4, bit_cases}
use Rattle.crc32c.proofs.Steps.{xor_same}

abbrev pub Linear : (ℕ → ℕ) → Type 0
Linear g = (a b : ℕ) → g (bit_xor a b) ≡ bit_xor (g a) (g b)

abbrev pub bit_at : ℕ → ℕ → ℕ
bit_at j w = w / 2 ^ j % 2

-- w, without bit j, which v has
abbrev pub clear : ℕ → ℕ → ℕ → ℕ
clear j v w = bit_xor w (bit_at j w * v)

-- where the lowest bit stands, among so many
unfoldable pub lowest : ℕ → ℕ → ℕ
lowest zero w = 0
lowest (suc n) w = cond (eqb (w % 2) 1) 0 (suc (lowest n (w / 2)))

-- the map on the bits above the first, of which v is made, with bit j of v out of it
abbrev pub next : ℕ → ℕ → (ℕ → ℕ) → ℕ → ℕ
next j v g r = clear j v (g (r * 2))

-- no numbers of so many bits but 0 become 0
unfoldable pub independent : ℕ → (ℕ → ℕ) → Bool
independent zero g = true
independent (suc m) g = eqb (bit_at (lowest 32 (g 1)) (g 1)) 1 && independent m (next (lowest 32 (g 1)) (g 1) g)

times : (p q v : ℕ) → p < 2 → q < 2 → bit_xor p q * v ≡ bit_xor (p * v) (q * v)
times p q v hp hq =
    elim (bit_cases p hp) [
      | inl e ↦ ap (λ x. bit_xor x q * v) e ∙ ap (λ x. x * v) (xor_zero_l q) ∙ sym (xor_zero_l (q * v)) ∙ ap (λ x. bit_xor x (q * v)) (sym (zero-mul v) ∙ ap (λ x. x * v) (sym e))
      | inr e ↦ elim (bit_cases q hq) [
        | inl f ↦ ap (λ x. bit_xor p x * v) f ∙ ap (λ x. x * v) (xor_zero_r p) ∙ sym (xor_zero_r (p * v)) ∙ ap (bit_xor (p * v)) (sym (zero-mul v) ∙ ap (λ x. x * v) (sym f))
        | inr f ↦ ap (λ x. bit_xor x q * v) (e ∙ sym f) ∙ ap (λ x. x * v) (xor_self q) ∙ zero-mul v ∙ sym (xor_self (q * v)) ∙ ap (λ x. bit_xor (x * v) (q * v)) (f ∙ sym e)
      ]
    ]

bit_linear : (j : ℕ) → Linear (bit_at j)
bit_linear j a b = ap (λ x. x % 2) (xor_shr a b j) ∙ xor_mod (a / 2 ^ j) (b / 2 ^ j) 1

clear_linear : (j v : ℕ) → Linear (clear j v)
clear_linear j v a b =
    ap (λ x. bit_xor (bit_xor a b) (x * v)) (bit_linear j a b)
    ∙ ap (bit_xor (bit_xor a b)) (times (bit_at j a) (bit_at j b) v (omega arith) (omega arith))
    ∙ swap4 a b (bit_at j a * v) (bit_at j b * v)

double_linear : Linear (λ r. r * 2)
double_linear a b =
    let e : bit_xor (a * 2 ^ 1 + 0) (b * 2 ^ 1 + 0) ≡ bit_xor a b * 2 ^ 1 + bit_xor 0 0 = xor_block 1 a b 0 0 (omega arith) (omega arith) in
    let z : bit_xor 0 0 ≡ 0 = xor_zero_r 0 in
    let p : a * 2 ^ 1 + 0 ≡ a * 2 = omega arith in
    let q : b * 2 ^ 1 + 0 ≡ b * 2 = omega arith in
    let r : bit_xor (a * 2) (b * 2) ≡ bit_xor a b * 2 ^ 1 + bit_xor 0 0 = ap (λ x. bit_xor x (b * 2)) (sym p) ∙ ap (bit_xor (a * 2 ^ 1 + 0)) (sym q) ∙ e in
    omega arith

next_linear : (j v : ℕ) (g : ℕ → ℕ) → Linear g → Linear (next j v g)
next_linear j v g l a b = ap (λ x. clear j v (g x)) (double_linear a b) ∙ ap (clear j v) (l (a * 2) (b * 2)) ∙ clear_linear j v (g (a * 2)) (g (b * 2))

zero_of : (g : ℕ → ℕ) → Linear g → g 0 ≡ 0
zero_of g l = ap g (sym (xor_zero_r 0)) ∙ l 0 0 ∙ xor_self (g 0)

-- a number by its lowest bit
by_bit : (g : ℕ → ℕ) → Linear g → (r : ℕ) → g r ≡ bit_xor (g (r / 2 * 2)) (g (r % 2))
by_bit g l r =
    let e : r ≡ bit_xor (r / 2 * 2) (r % 2) = let q : r ≡ r / 2 * 2 ^ 1 + r % 2 = omega arith in q ∙ sym (xor_shifted (r / 2) 1 (r % 2) (omega arith)) in
    ap g e ∙ l (r / 2 * 2) (r % 2)

half_lt : (m x : ℕ) → x < 2 ^ suc m → x / 2 < 2 ^ m
half_lt m x h = let e = pow-suc 2 m in omega arith

cleared_zero : (j v w : ℕ) → w ≡ 0 → clear j v w ≡ 0
cleared_zero j v w e = ap (clear j v) e ∙ zero_of (clear j v) (clear_linear j v)

cleared-same : (j v w : ℕ) → w ≡ v → bit_at j v ≡ 1 → clear j v w ≡ 0
cleared-same j v w e o = ap (clear j v) e ∙ ap (λ b. bit_xor v (b * v)) o ∙ ap (bit_xor v) (one-mul v) ∙ xor_self v

pub independent_is : (m : ℕ) (g : ℕ → ℕ) → Linear g → independent m g ≡ true → (r : ℕ) → r < 2 ^ m → g r ≡ 0 → r ≡ 0
unfolding independent
independent_is zero g l t r h z = omega arith
independent_is (suc m) g l t r h z =
    let j : ℕ = lowest 32 (g 1) in
    let v : ℕ = g 1 in
    let p = and_parts (eqb (bit_at j v) 1) (independent m (next j v g)) t in
    let one : bit_at j v ≡ 1 = eqb-true _ _ p.0 in
    let below : next j v g (r / 2) ≡ 0 → r / 2 ≡ 0 = independent_is m (next j v g) (next_linear j v g l) p.1 (r / 2) (half_lt m r h) in
    ⊎_elim
    (λ (e : r % 2 ≡ 0).
    let w : g (r / 2 * 2) ≡ 0 = sym (xor_zero_r (g (r / 2 * 2))) ∙ ap (bit_xor (g (r / 2 * 2))) (sym (zero_of g l) ∙ ap g (sym e)) ∙ sym (by_bit g l r) ∙ z in
    let n : r / 2 ≡ 0 = below (cleared_zero j v (g (r / 2 * 2)) w) in
    omega arith)
    (λ (e : r % 2 ≡ 1).
    let w : g (r / 2 * 2) ≡ v = xor_same (g (r / 2 * 2)) v (ap (λ x. bit_xor (g (r / 2 * 2)) (g x)) (sym e) ∙ sym (by_bit g l r) ∙ z) in
    let n : r / 2 ≡ 0 = below (cleared-same j v (g (r / 2 * 2)) w one) in
    let q : v ≡ 0 = sym w ∙ ap (λ x. g (x * 2)) n ∙ zero_of g l in
    let b : bit_at j v ≡ bit_at j 0 = ap (bit_at j) q in
    let o : bit_at j 0 ≡ 0 = zero_of (bit_at j) (bit_linear j) in
    omega arith)
    (bit_cases (r % 2) (omega arith))
