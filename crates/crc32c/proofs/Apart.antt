-- Different bytes and their checks differ in at least four bits. In an odd number of bits they cannot differ, since a step keeps it even or odd
-- how many are set; and for two bits the steps from 1 would have to come back to 1.
use Rattle.std.proofs.Common.{◌≡◌, ℕ, zero, suc, ◌+◌, ◌-◌, ◌*◌, ◌/◌, ◌%◌, ◌^◌, ◌<◌, ◌≤◌, Bool, true, not, ◌&&◌, eqb, ◌⊎◌, List, [], ◌∷◌, length, sym, refl, ap, ◌∙◌, subst, inl, inr, ⊎_elim, pow-suc, arith, pow_mono, pow-add}
use lib.Bits.{bit_xor, xor_shr, xor_mod, xor_block, xor_zero_r, xor_lt}
use lib.Count.{ones, ones_step, ones_cat}
use Rattle.std.proofs.lemmas.Bool.{and_parts, not-true, eqb-false, cases_eq, cases_lt}
use Rattle.crc32c.specs.Crc.{Bytes, generator, bit_step, crc_of}
use Rattle.crc32c.specs.Distance.{number_of, bits_apart}
use Rattle.crc32c.proofs.Bounds.{crc_lt}
use Rattle.crc32c.proofs.Linear.{bit_cases}
use Rattle.crc32c.proofs.Steps.{steps, steps-both, steps_linear, steps_lt, steps_zero, steps-one-way, xor_same, crc_apart}

-- the steps from 1 do not come back to it

unfoldable never : ℕ → ℕ → Bool
never zero c = true
never (suc n) c = not (eqb (bit_step c) 1) && never n (bit_step c)

never_computed : never 8575 1 ≡ true
unfolding never
never_computed = refl

never_is : (n c k : ℕ) → never n c ≡ true → 0 < k → k ≤ n → steps k c ≡ 1 → ⊥
unfolding never steps
never_is n c zero e h l s = omega arith
never_is zero c (suc k) e h l s = omega arith
never_is (suc n) c (suc zero) e h l s = let p = and_parts (not (eqb (bit_step c) 1)) (never n (bit_step c)) e in eqb-false _ _ (not-true _ p.0) s
never_is (suc n) c (suc (suc k)) e h l s = let p = and_parts (not (eqb (bit_step c) 1)) (never n (bit_step c)) e in never_is n (bit_step c) (suc k) p.1 (omega arith) (omega arith) s

no_return : (k : ℕ) → 0 < k → k ≤ 8575 → steps k 1 ≡ 1 → ⊥
no_return k h l s = never_is 8575 1 k never_computed h l s

-- numbers by their bits

half_lt : (m x : ℕ) → x < 2 ^ suc m → x / 2 < 2 ^ m
half_lt m x h = let e = pow-suc 2 m in omega arith

ones_of_0 : ones 0 ≡ 0
unfolding ones
ones_of_0 = refl

ones_none : (m x : ℕ) → x < 2 ^ m → ones x ≡ 0 → x ≡ 0
ones_none zero x h e = omega arith
ones_none (suc m) x h e = let s = ones_step x in let z : x / 2 ≡ 0 = ones_none m (x / 2) (half_lt m x h) (omega arith) in omega arith

even_step : (x : ℕ) → x % 2 ≡ 0 → bit_step x ≡ x / 2
even_step x e = ap (λ b. bit_xor (x / 2) (b * generator)) e ∙ xor_zero_r (x / 2)

odd_step : (x : ℕ) → x % 2 ≡ 1 → bit_step x ≡ bit_xor (x / 2) (bit_step 1)
odd_step x e = ap (λ b. bit_xor (x / 2) (b * generator)) e

-- one bit is left as the steps from 1 leave it
single : (m x : ℕ) → x < 2 ^ m → ones x ≡ 1 → (k : ℕ) × (0 < k) × (k ≤ m) × (steps m x ≡ steps k 1)
unfolding steps
single zero x h o = let z : x ≡ 0 = omega arith in let e : ones x ≡ 0 = ap ones z ∙ ones_of_0 in absurd (omega arith)
single (suc m) x h o =
    let s : ones x ≡ x % 2 + ones (x / 2) = ones_step x in
    ⊎_elim
    (λ (e : x % 2 ≡ 0). let r = single m (x / 2) (half_lt m x h) (omega arith) in (r.0, r.1, omega (arith, r.2), ap (steps m) (even_step x e) ∙ r.3))
    (λ (e : x % 2 ≡ 1). let z : x / 2 ≡ 0 = ones_none m (x / 2) (half_lt m x h) (omega arith) in let y : x ≡ 1 = omega arith in (suc m, omega arith, omega arith, ap (λ v. steps m (bit_step v)) y))
    (bit_cases (x % 2) (omega arith))

-- and comes back to 1
back_to_one : (m x : ℕ) → x < 2 ^ m → ones x ≡ 1 → (j : ℕ) × (j < m) × (steps j x ≡ 1)
unfolding steps
back_to_one zero x h o = let z : x ≡ 0 = omega arith in let e : ones x ≡ 0 = ap ones z ∙ ones_of_0 in absurd (omega arith)
back_to_one (suc m) x h o =
    let s : ones x ≡ x % 2 + ones (x / 2) = ones_step x in
    ⊎_elim
    (λ (e : x % 2 ≡ 0). let r = back_to_one m (x / 2) (half_lt m x h) (omega arith) in (suc r.0, omega (arith, r.1), ap (steps r.0) (even_step x e) ∙ r.2))
    (λ (e : x % 2 ≡ 1). let z : x / 2 ≡ 0 = ones_none m (x / 2) (half_lt m x h) (omega arith) in let y : x ≡ 1 = omega arith in (0, omega arith, y))
    (bit_cases (x % 2) (omega arith))

-- where two bits leave nothing, the steps from 1 come back to it
two : (m x : ℕ) → x < 2 ^ m → ones x ≡ 2 → steps m x ≡ 0 → (k : ℕ) × (0 < k) × (k < m) × (steps k 1 ≡ 1)
unfolding steps
two zero x h o z = let q : x ≡ 0 = omega arith in let e : ones x ≡ 0 = ap ones q ∙ ones_of_0 in absurd (omega arith)
two (suc m) x h o z =
    let s : ones x ≡ x % 2 + ones (x / 2) = ones_step x in
    ⊎_elim
    (λ (e : x % 2 ≡ 0). let r = two m (x / 2) (half_lt m x h) (omega arith) (ap (steps m) (sym (even_step x e)) ∙ z) in (r.0, r.1, omega (arith, r.2), r.3))
    (λ (e : x % 2 ≡ 1). met (single m (x / 2) (half_lt m x h) (omega arith)) (xor_same (steps m (x / 2)) (steps m (bit_step 1)) (sym (steps_linear m (x / 2) (bit_step 1)) ∙ ap (steps m) (sym (odd_step x e)) ∙ z)))
    (bit_cases (x % 2) (omega arith))
  where
    met : ((k : ℕ) × (0 < k) × (k ≤ m) × (steps m (x / 2) ≡ steps k 1)) → steps m (x / 2) ≡ steps m (bit_step 1) → (k : ℕ) × (0 < k) × (k < suc m) × (steps k 1 ≡ 1)
    met (k, pos, le, at) e =
        let d : ℕ = suc m - k in
        let n : d + k ≡ suc m = omega arith in
        let q : steps k 1 ≡ steps k (steps d 1) = sym at ∙ e ∙ ap (λ i. steps i 1) (sym n) ∙ steps-both d k 1 in
        (d, omega arith, omega arith, sym (steps-one-way k 1 (steps d 1) (omega arith) (steps_lt d 1 (omega arith)) q))

-- even or odd

bit_even : (p q : ℕ) → p < 2 → q < 2 → (bit_xor p q + p + q) % 2 ≡ 0
bit_even p q hp hq =
    elim (bit_cases p hp) [
      | inl e ↦ elim (bit_cases q hq) [ inl f ↦ rw (e, f) | inr f ↦ rw (e, f) ]
      | inr e ↦ elim (bit_cases q hq) [ inl f ↦ rw (e, f) | inr f ↦ rw (e, f) ]
    ]

xor_even : (m a b : ℕ) → a < 2 ^ m → b < 2 ^ m → (ones (bit_xor a b) + ones a + ones b) % 2 ≡ 0
xor_even zero a b h k =
    let z : a ≡ 0 = omega arith in
    let y : b ≡ 0 = omega arith in
    let o = ones_of_0 in
    rw (z, y) (let e : ones (bit_xor 0 0) ≡ 0 = ap ones (xor_zero_r 0) ∙ o in omega arith)
xor_even (suc m) a b h k =
    let s = ones_step (bit_xor a b) in
    let sa = ones_step a in
    let sb = ones_step b in
    let half : ones (bit_xor a b / 2) ≡ ones (bit_xor (a / 2) (b / 2)) = ap ones (xor_shr a b 1) in
    let odd : bit_xor a b % 2 ≡ bit_xor (a % 2) (b % 2) = xor_mod a b 1 in
    let r = xor_even m (a / 2) (b / 2) (half_lt m a h) (half_lt m b k) in
    let q = bit_even (a % 2) (b % 2) (omega arith) (omega arith) in
    omega arith

ones_of_generator : ones generator ≡ 17
unfolding ones
ones_of_generator = ones_cat 8 0x82f63b 0x78 (omega arith) ∙ ap (λ n. n + 4) (ones_cat 8 0x82f6 0x3b (omega arith) ∙ ap (λ n. n + 5) (ones_cat 8 0x82 0xf6 (omega arith)))

step_even : (m c : ℕ) → 2 ^ 32 ≤ 2 ^ m → c < 2 ^ m → (ones (bit_step c) + ones c) % 2 ≡ 0
step_even m c w h =
    let s = ones_step c in
    ⊎_elim
    (λ (e : c % 2 ≡ 0). let q : ones (bit_step c) ≡ ones (c / 2) = ap ones (even_step c e) in omega arith)
    (λ (e : c % 2 ≡ 1).
    let q : ones (bit_step c) ≡ ones (bit_xor (c / 2) generator) = ap ones (odd_step c e) in
    let g = ones_of_generator in
    let r = xor_even m (c / 2) generator (omega arith) (omega arith) in
    omega arith)
    (bit_cases (c % 2) (omega arith))

step_lt : (m c : ℕ) → 2 ^ 32 ≤ 2 ^ m → c < 2 ^ m → bit_step c < 2 ^ m
step_lt m c w h = xor_lt m (c / 2) (c % 2 * generator) (omega arith) (omega arith)

steps_even : (m n c : ℕ) → 2 ^ 32 ≤ 2 ^ m → c < 2 ^ m → (ones (steps n c) + ones c) % 2 ≡ 0
unfolding steps
steps_even m zero c w h = omega arith
steps_even m (suc n) c w h =
    let r = steps_even m n (bit_step c) w (step_lt m c w h) in
    let q = step_even m c w h in
    omega arith

-- lists of bytes

pub number_lt : (s : List ℕ) → Bytes s → number_of s < 2 ^ (8 * length s)
number_lt [] h = omega arith
number_lt (b ∷ bs) h =
    let n : ℕ = 8 * length bs in
    let e : 2 ^ (8 * suc (length bs)) ≡ 2 ^ n * 2 ^ 8 = ap (λ k. 2 ^ k) (let q : 8 * suc (length bs) ≡ n + 8 = omega arith in q) ∙ pow-add 2 n 8 in
    let r = number_lt bs (λ i. h (suc i)) in
    let l = h 0 in
    omega arith

pub apart_is : (s t : List ℕ) → Bytes s → Bytes t → length s ≡ length t → bits_apart s t ≡ ones (bit_xor (number_of s) (number_of t))
apart_is [] [] h k e = sym (ap ones (xor_zero_r 0) ∙ ones_of_0)
apart_is [] (b ∷ t) h k e = absurd (omega arith)
apart_is (a ∷ s) [] h k e = absurd (omega arith)
apart_is (a ∷ s) (b ∷ t) h k e =
    let r = apart_is s t (λ i. h (suc i)) (λ i. k (suc i)) (omega arith) in
    let x : bit_xor (number_of s * 2 ^ 8 + a) (number_of t * 2 ^ 8 + b) ≡ bit_xor (number_of s) (number_of t) * 2 ^ 8 + bit_xor a b = xor_block 8 (number_of s) (number_of t) a b (h 0) (k 0) in
    let c = ones_cat 8 (bit_xor (number_of s) (number_of t)) (bit_xor a b) (xor_lt 8 a b (h 0) (k 0)) in
    let q : ones (bit_xor (number_of s * 2 ^ 8 + a) (number_of t * 2 ^ 8 + b)) ≡ ones (bit_xor (number_of s) (number_of t) * 2 ^ 8 + bit_xor a b) = ap ones x in
    omega arith

-- neither one bit and one of the check, nor two bits
close : (n d e : ℕ) → d < 2 ^ n → n ≤ 8544 → e < 2 ^ 32 → e ≡ steps n d → 0 < ones d → ones d + ones e < 4 → ⊥
close n d e hd hn he is pos few = go (cases_eq (ones d) 1)
  where
    w : 2 ^ 32 ≤ 2 ^ (n + 32)
    w = let q : 32 ≤ n + 32 = omega arith in pow_mono q

    v : 2 ^ n ≤ 2 ^ (n + 32)
    v = let q : n ≤ n + 32 = omega arith in pow_mono q

    parity : (ones e + ones d) % 2 ≡ 0
    parity = ap (λ x. (ones x + ones d) % 2) is ∙ steps_even (n + 32) n d w (omega (arith, v))

    both : ((k : ℕ) × (0 < k) × (k ≤ n) × (steps n d ≡ steps k 1)) → ((j : ℕ) × (j < 32) × (steps j e ≡ 1)) → ⊥
    both (k, p, l, a) (j, m, b) = no_return (k + j) (omega arith) (omega arith) (steps-both k j 1 ∙ ap (steps j) (sym a ∙ sym is) ∙ b)

    apart : ((k : ℕ) × (0 < k) × (k < n) × (steps k 1 ≡ 1)) → ⊥
    apart (k, p, l, a) = no_return k p (omega arith) a

    go : ((ones d ≡ 1) ⊎ (ones d ≡ 1 → ⊥)) → ⊥
    go (inl o) = both (single n d hd o) (back_to_one 32 e he (let p = parity in omega arith))
    go (inr o) =
        let p = parity in
        let two-d : ones d ≡ 2 = omega arith in
        let none-e : ones e ≡ 0 = omega arith in
        apart (two n d hd two-d (sym is ∙ ones_none 32 e he none-e))

pub four_apart_lem : (s t : List ℕ) → Bytes s → Bytes t → length s ≡ length t → length s ≤ 1068 → 0 < bits_apart s t → 4 ≤ bits_apart s t + ones (bit_xor (crc_of s) (crc_of t))
four_apart_lem s t h k l few pos = go (cases_lt (bits_apart s t + ones e) 4)
  where
    d : ℕ
    d = bit_xor (number_of s) (number_of t)

    e : ℕ
    e = bit_xor (crc_of s) (crc_of t)

    n : ℕ
    n = 8 * length s

    go : ((bits_apart s t + ones e < 4) ⊎ (4 ≤ bits_apart s t + ones e)) → 4 ≤ bits_apart s t + ones e
    go (inr q) = q
    go (inl q) =
        let a : bits_apart s t ≡ ones d = apart_is s t h k l in
        let ht : number_of t < 2 ^ n = subst (λ i. number_of t < 2 ^ (8 * i)) (sym l) (number_lt t k) in
        absurd (close n d e (xor_lt n (number_of s) (number_of t) (number_lt s h) ht) (omega arith) (xor_lt 32 (crc_of s) (crc_of t) (crc_lt s h) (crc_lt t k)) (crc_apart s t h k l) (omega arith) (omega arith))

pub none_apart : (s t : List ℕ) → Bytes s → Bytes t → length s ≡ length t → bits_apart s t ≡ 0 → ones (bit_xor (crc_of s) (crc_of t)) ≡ 0
none_apart s t h k l z =
    let ht : number_of t < 2 ^ (8 * length s) = subst (λ i. number_of t < 2 ^ (8 * i)) (sym l) (number_lt t k) in
    let d : bit_xor (number_of s) (number_of t) ≡ 0 = ones_none (8 * length s) _ (xor_lt (8 * length s) (number_of s) (number_of t) (number_lt s h) ht) (sym (apart_is s t h k l) ∙ z) in
    ap ones (crc_apart s t h k l ∙ ap (steps (8 * length s)) d ∙ steps_zero (8 * length s)) ∙ ones_of_0
