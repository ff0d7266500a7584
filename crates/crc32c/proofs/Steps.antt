-- The register as what is left of one number, the bits of all bytes, by as many steps.
use Rattle.std.proofs.Common.{◌≡◌, ℕ, zero, suc, ◌+◌, ◌*◌, ◌/◌, ◌%◌, ◌^◌, ◌<◌, List, [], ◌∷◌, length, sym, refl, ap, ◌∙◌, mul_assoc, mul-pos, pow-suc, arith, pow_pos}
use lib.Bits.{bit_xor, xor_assoc, xor_comm, xor_zero_r, xor_zero_l, xor_shifted, xor_self, xor_lt}
use Rattle.crc32c.specs.Crc.{Bytes, generator, bit_step, eight_steps, byte_step, register_after, crc_of}
use Rattle.crc32c.specs.Distance.{number_of, OneRun}
use Rattle.crc32c.proofs.Linear.{swap4, bit_linear, byte_linear, even, high}
use Rattle.crc32c.proofs.Bounds.{bit_lt}

unfoldable pub steps : ℕ → ℕ → ℕ
steps zero c = c
steps (suc n) c = steps n (bit_step c)

pub steps-both : (m n c : ℕ) → steps (m + n) c ≡ steps n (steps m c)
unfolding steps
steps-both zero n c = ap (λ k. steps k c) (let e : 0 + n ≡ n = omega arith in e)
steps-both (suc m) n c = ap (λ k. steps k c) (let e : suc m + n ≡ suc (m + n) = omega arith in e) ∙ steps-both m n (bit_step c)

pub steps_linear : (n a b : ℕ) → steps n (bit_xor a b) ≡ bit_xor (steps n a) (steps n b)
unfolding steps
steps_linear zero a b = refl
steps_linear (suc n) a b = ap (steps n) (bit_linear a b) ∙ steps_linear n (bit_step a) (bit_step b)

eight_are : (c : ℕ) → steps 8 c ≡ eight_steps c
unfolding steps eight_steps
eight_are c = refl

-- a byte in front of the number
front : (c n b : ℕ) → b < 2 ^ 8 → eight_steps (bit_xor c (n * 2 ^ 8 + b)) ≡ bit_xor (byte_step c b) n
unfolding byte_step
front c n b h =
    let e : bit_xor c (n * 2 ^ 8 + b) ≡ bit_xor (bit_xor c b) (n * 2 ^ 8) =
    ap (bit_xor c) (sym (xor_shifted n 8 b h) ∙ xor_comm (n * 2 ^ 8) b) ∙ sym (xor_assoc c b (n * 2 ^ 8)) in
    ap eight_steps e ∙ byte_linear (bit_xor c b) (n * 2 ^ 8) ∙ ap (bit_xor (eight_steps (bit_xor c b))) (high n)

pub register_is : (c : ℕ) (bs : List ℕ) → Bytes bs → register_after c bs ≡ steps (8 * length bs) (bit_xor c (number_of bs))
unfolding steps
register_is c [] h = sym (xor_zero_r c)
register_is c (b ∷ bs) h =
    register_is (byte_step c b) bs (λ i. h (suc i))
    ∙ ap (steps (8 * length bs)) (sym (eight_are (bit_xor c (number_of bs * 2 ^ 8 + b)) ∙ front c (number_of bs) b (h 0)))
    ∙ sym (steps-both 8 (8 * length bs) (bit_xor c (number_of bs * 2 ^ 8 + b)))
    ∙ ap (λ k. steps k (bit_xor c (number_of bs * 2 ^ 8 + b))) (let e : 8 + 8 * length bs ≡ 8 * suc (length bs) = omega arith in e)

-- what stands in both falls out
both_out : (a b f : ℕ) → bit_xor (bit_xor a f) (bit_xor b f) ≡ bit_xor a b
both_out a b f = swap4 a f b f ∙ ap (bit_xor (bit_xor a b)) (xor_self f) ∙ xor_zero_r (bit_xor a b)

pub crc_apart : (s t : List ℕ) → Bytes s → Bytes t → length s ≡ length t → bit_xor (crc_of s) (crc_of t) ≡ steps (8 * length s) (bit_xor (number_of s) (number_of t))
crc_apart s t h k e =
    let f : ℕ = 0xffffffff in
    let n : ℕ = 8 * length s in
    let rs : register_after f s ≡ steps n (bit_xor f (number_of s)) = register_is f s h in
    let rt : register_after f t ≡ steps n (bit_xor f (number_of t)) = register_is f t k ∙ ap (λ l. steps (8 * l) (bit_xor f (number_of t))) (sym e) in
    both_out (register_after f s) (register_after f t) f
    ∙ ap (λ x. bit_xor x (register_after f t)) rs ∙ ap (bit_xor (steps n (bit_xor f (number_of s)))) rt
    ∙ sym (steps_linear n (bit_xor f (number_of s)) (bit_xor f (number_of t)))
    ∙ ap (steps n) (ap (λ x. bit_xor x (bit_xor f (number_of t))) (xor_comm f (number_of s)) ∙ ap (bit_xor (bit_xor (number_of s) f)) (xor_comm f (number_of t)) ∙ both_out (number_of s) (number_of t) f)

pub xor_same : (a b : ℕ) → bit_xor a b ≡ 0 → a ≡ b
xor_same a b e = sym (xor_zero_r a) ∙ ap (bit_xor a) (sym e) ∙ sym (xor_assoc a a b) ∙ ap (λ x. bit_xor x b) (xor_self a) ∙ xor_zero_l b

-- a step loses nothing: the highest bit says what moved out
nothing_lost : (c : ℕ) → c < 2 ^ 32 → bit_step c ≡ 0 → c ≡ 0
nothing_lost c h e = let q : c / 2 ≡ c % 2 * generator = xor_same (c / 2) (c % 2 * generator) e in omega arith

pub steps_lt : (n c : ℕ) → c < 2 ^ 32 → steps n c < 2 ^ 32
unfolding steps
steps_lt zero c h = h
steps_lt (suc n) c h = steps_lt n (bit_step c) (bit_lt c h)

pub steps_zero : (n : ℕ) → steps n 0 ≡ 0
unfolding steps
steps_zero zero = refl
steps_zero (suc n) = steps_zero n

pub steps_kept : (n c : ℕ) → c < 2 ^ 32 → steps n c ≡ 0 → c ≡ 0
unfolding steps
steps_kept zero c h e = e
steps_kept (suc n) c h e = nothing_lost c h (steps_kept n (bit_step c) (bit_lt c h) e)

pub steps-one-way : (n a b : ℕ) → a < 2 ^ 32 → b < 2 ^ 32 → steps n a ≡ steps n b → a ≡ b
steps-one-way n a b h k e =
    xor_same a b (steps_kept n (bit_xor a b) (xor_lt 32 a b h k) (steps_linear n a b ∙ ap (λ x. bit_xor x (steps n b)) e ∙ xor_self (steps n b)))

-- a run of bits leaves something, wherever it stands
run-left : (k n r : ℕ) → 0 < r → r < 2 ^ 32 → steps n (r * 2 ^ k) ≡ 0 → ⊥
unfolding steps
run-left zero n r h l e =
    let one : r * 2 ^ 0 ≡ r = omega arith in
    let z : r ≡ 0 = steps_kept n r l (ap (steps n) (sym one) ∙ e) in
    omega arith
run-left (suc k) zero r h l e = let z = pow_pos (suc k) in let q = mul-pos h z in omega arith
run-left (suc k) (suc n) r h l e =
    let q : r * 2 ^ suc k ≡ r * 2 ^ k * 2 = ap (λ x. r * x) (pow-suc 2 k) ∙ sym (mul_assoc r (2 ^ k) 2) in
    run-left k n r h l (ap (steps n) (sym (ap bit_step q ∙ even (r * 2 ^ k))) ∙ e)

pub run_changes_lem : (s t : List ℕ) → Bytes s → Bytes t → length s ≡ length t → OneRun s t → crc_of s ≡ crc_of t → ⊥
run_changes_lem s t h k l o same =
    run-left o.first (8 * length s) o.run o.some o.short
    (ap (steps (8 * length s)) (sym o.differs) ∙ sym (crc_apart s t h k l) ∙ ap (λ x. bit_xor x (crc_of t)) same ∙ xor_self (crc_of t))
