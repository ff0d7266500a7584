-- A step of the register is linear over bit_xor, so eight steps are one look into the table.
use Rattle.std.proofs.Common.{◌≡◌, ℕ, ◌*◌, ◌/◌, ◌%◌, ◌^◌, ◌<◌, ◌⊎◌, sym, ap, ◌∙◌, inl, inr, arith}
use lib.Bits.{bit_xor, xor_shr, xor_mod, xor_assoc, xor_comm, xor_zero_r, xor_shifted}
use Rattle.std.proofs.lemmas.Nat.{div-add-mod'}
use Rattle.crc32c.specs.Crc.{generator, bit_step, eight_steps, byte_step}

-- four numbers in another order
pub swap4 : (a b c d : ℕ) → bit_xor (bit_xor a b) (bit_xor c d) ≡ bit_xor (bit_xor a c) (bit_xor b d)
swap4 a b c d =
    xor_assoc a b (bit_xor c d)
    ∙ ap (bit_xor a) (sym (xor_assoc b c d) ∙ ap (λ (x : ℕ). bit_xor x d) (xor_comm b c) ∙ xor_assoc c b d)
    ∙ sym (xor_assoc a c (bit_xor b d))

pub bit_cases : (n : ℕ) → n < 2 → (n ≡ 0) ⊎ (n ≡ 1)
bit_cases n h = grind arith

times : (p q : ℕ) → p < 2 → q < 2 → bit_xor p q * generator ≡ bit_xor (p * generator) (q * generator)
times p q hp hq =
    elim (bit_cases p hp) [
      | inl e ↦ elim (bit_cases q hq) [ inl f ↦ rw (e, f) | inr f ↦ rw (e, f) ]
      | inr e ↦ elim (bit_cases q hq) [ inl f ↦ rw (e, f) | inr f ↦ rw (e, f) ]
    ]

pub bit_linear : (a b : ℕ) → bit_step (bit_xor a b) ≡ bit_xor (bit_step a) (bit_step b)
bit_linear a b =
    let half : bit_xor a b / 2 ≡ bit_xor (a / 2) (b / 2) = xor_shr a b 1 in
    let odd : bit_xor a b % 2 ≡ bit_xor (a % 2) (b % 2) = xor_mod a b 1 in
    let ha : a % 2 < 2 = omega arith in
    let hb : b % 2 < 2 = omega arith in
    rw (half, odd) (ap (bit_xor (bit_xor (a / 2) (b / 2))) (times (a % 2) (b % 2) ha hb) ∙ swap4 (a / 2) (b / 2) (a % 2 * generator) (b % 2 * generator))

pub byte_linear : (a b : ℕ) → eight_steps (bit_xor a b) ≡ bit_xor (eight_steps a) (eight_steps b)
unfolding eight_steps
byte_linear a b = simp bit_linear

pub even : (m : ℕ) → bit_step (m * 2) ≡ m
even m =
    let h : m * 2 / 2 ≡ m = omega arith in
    let o : m * 2 % 2 ≡ 0 = omega arith in
    rw (h, o) (xor_zero_r m)

pub high : (m : ℕ) → eight_steps (m * 256) ≡ m
unfolding eight_steps
high m =
    let e : m * 256 ≡ m * 2 * 2 * 2 * 2 * 2 * 2 * 2 * 2 = omega arith in
    rw e (simp even)

pub by_table : (x : ℕ) → eight_steps x ≡ bit_xor (x / 256) (eight_steps (x % 256))
by_table x =
    let h : x % 256 < 2 ^ 8 = omega arith in
    let e : x ≡ bit_xor (x / 256 * 256) (x % 256) = sym (div-add-mod' x 256) ∙ sym (xor_shifted (x / 256) 8 (x % 256) h) in
    ap eight_steps e ∙ byte_linear (x / 256 * 256) (x % 256) ∙ ap (λ (y : ℕ). bit_xor y (eight_steps (x % 256))) (high (x / 256))

pub step_is : (c b : ℕ) → b < 256 → byte_step c b ≡ bit_xor (c / 256) (eight_steps (bit_xor c b % 256))
unfolding byte_step
step_is c b h =
    let z : b / 256 ≡ 0 = omega arith in
    let e : bit_xor c b / 256 ≡ c / 256 = xor_shr c b 8 ∙ ap (bit_xor (c / 256)) z ∙ xor_zero_r (c / 256) in
    by_table (bit_xor c b) ∙ ap (λ (y : ℕ). bit_xor y (eight_steps (bit_xor c b % 256))) e
