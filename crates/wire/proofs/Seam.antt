-- Runs of up to 30 bits anywhere, also over the seam between body and check.
use Rattle.std.proofs.Common.{◌≡◌, ℕ, zero, suc, ◌+◌, ◌-◌, ◌*◌, ◌/◌, ◌%◌, ◌^◌, ◌<◌, ◌≤◌, Bool, true, false, ◌&&◌, ◌⊎◌, List, [], ◌∷◌, ◌++◌, length, take, drop, Ok, sym, refl, ap, ◌∙◌, subst, inl, inr, mul_assoc, add-mul, mul-pos, pow-suc, zero-add, zero-mul, div-one, arith, take-append-drop, pow_pos, pow_mono, pow-add}
use lib.Bits.{bit_xor, xor_shr, xor_mod, xor_self, xor_lt, xor_block}
use Rattle.std.proofs.lemmas.Nat.{shr_high, mod_low, shl_below, mod_below, shr_split}
use Rattle.std.proofs.lemmas.Bool.{and_parts, cases_eq, cases_lt}
use Rattle.hold.specs.Packet as m
use Rattle.crc32c.specs.Crc.{Bytes, bit_step, byte_step, eight_steps, crc_of}
use Rattle.crc32c.specs.Distance.{number_of}
use Rattle.crc32c.proofs.Linear.{swap4, even}
use Rattle.crc32c.proofs.Steps.{steps, steps-both, steps_linear, steps_zero, steps_kept, crc_apart}
use Rattle.crc32c.proofs.Apart.{number_lt}
use Rattle.wire.specs.Numbers.{number32}
use Rattle.wire.specs.Format.{decode}
use Rattle.wire.specs.Laws.{OpenSeam, Refused, body, check_of}
use Rattle.wire.proofs.Digits.{from4, last4, number32-bytes4}
use Rattle.wire.proofs.Independent.{Linear, independent, independent_is, lowest}
use Rattle.wire.proofs.Took.{took}
use Rattle.wire.proofs.Damage.{refused, seal, body_bytes, body-length, same_length}

abbrev digit : ℕ → ℕ → ℕ
digit k f = f / 2 ^ k % 2 ^ 8

-- the number that four bytes are high byte first, from what they are low byte first
abbrev swap : ℕ → ℕ
swap f = ((digit 0 f * 2 ^ 8 + digit 8 f) * 2 ^ 8 + digit 16 f) * 2 ^ 8 + digit 24 f

digit_linear : (k : ℕ) → Linear (digit k)
digit_linear k a b = ap (λ x. x % 2 ^ 8) (xor_shr a b k) ∙ xor_mod (a / 2 ^ k) (b / 2 ^ k) 8

block_linear : (g d : ℕ → ℕ) → Linear g → Linear d → ((x : ℕ) → d x < 2 ^ 8) → Linear (λ x. g x * 2 ^ 8 + d x)
block_linear g d lg ld h a b =
    ap (λ x. x * 2 ^ 8 + d (bit_xor a b)) (lg a b) ∙ ap (λ x. bit_xor (g a) (g b) * 2 ^ 8 + x) (ld a b) ∙ sym (xor_block 8 (g a) (g b) (d a) (d b) (h a) (h b))

swap_linear : Linear swap
swap_linear =
    block_linear (λ f. (digit 0 f * 2 ^ 8 + digit 8 f) * 2 ^ 8 + digit 16 f) (digit 24)
    (block_linear (λ f. digit 0 f * 2 ^ 8 + digit 8 f) (digit 16)
    (block_linear (digit 0) (digit 8) (digit_linear 0) (digit_linear 8) (λ x. omega arith))
    (digit_linear 16) (λ x. omega arith))
    (digit_linear 24) (λ x. omega arith)

all_zero : (a b c d : ℕ) → ((a * 2 ^ 8 + b) * 2 ^ 8 + c) * 2 ^ 8 + d ≡ 0 → (a ≡ 0) × (b ≡ 0) × (c ≡ 0) × (d ≡ 0)
all_zero a b c d z = (omega arith, omega arith, omega arith, omega arith)

swap_kept : (f : ℕ) → f < 2 ^ 32 → swap f ≡ 0 → f ≡ 0
swap_kept f h z =
    let (d0, d8, d16, d24) = all_zero (digit 0 f) (digit 8 f) (digit 16 f) (digit 24 f) z in
    sym (number32-bytes4 f h) ∙ sum (digit 24 f) (digit 16 f) (digit 8 f) (f % 256) d24 d16 d8 (ap (λ x. x % 256) (sym (div-one f)) ∙ d0)
  where
    sum : (a b c d : ℕ) → a ≡ 0 → b ≡ 0 → c ≡ 0 → d ≡ 0 → a * 2 ^ 24 + b * 2 ^ 16 + c * 2 ^ 8 + d ≡ 0
    sum a b c d p q r s = omega arith

same-swap : (a b c d e f g h : ℕ) → a ≡ e → b ≡ f → c ≡ g → d ≡ h → ((a * 2 ^ 8 + b) * 2 ^ 8 + c) * 2 ^ 8 + d ≡ e * 2 ^ 24 + f * 2 ^ 16 + g * 2 ^ 8 + h
same-swap a b c d e f g h p q r s = omega arith

swap-number : (a b c d : ℕ) → a < 256 → b < 256 → c < 256 → d < 256 → swap (number_of (a ∷ b ∷ c ∷ d ∷ [])) ≡ number32 (a ∷ b ∷ c ∷ d ∷ []) 0
swap-number a b c d la lb lc ld =
    let n : ℕ = number_of (a ∷ b ∷ c ∷ d ∷ []) in
    let e0 : n / 2 ^ 0 ≡ ((d * 2 ^ 8 + c) * 2 ^ 8 + b) * 2 ^ 8 + a = omega arith in
    let e8 : n / 2 ^ 8 ≡ (d * 2 ^ 8 + c) * 2 ^ 8 + b = omega arith in
    let e16 : n / 2 ^ 16 ≡ d * 2 ^ 8 + c = omega arith in
    let e24 : n / 2 ^ 24 ≡ d = omega arith in
    let d0 : digit 0 n ≡ a = ap (λ x. x % 2 ^ 8) e0 ∙ mod_low ((d * 2 ^ 8 + c) * 2 ^ 8 + b) 8 a la in
    let d8 : digit 8 n ≡ b = ap (λ x. x % 2 ^ 8) e8 ∙ mod_low (d * 2 ^ 8 + c) 8 b lb in
    let d16 : digit 16 n ≡ c = ap (λ x. x % 2 ^ 8) e16 ∙ mod_low d 8 c lc in
    let d24 : digit 24 n ≡ d = ap (λ x. x % 2 ^ 8) e24 ∙ (let q : d % 2 ^ 8 ≡ d = omega arith in q) in
    same-swap (digit 0 n) (digit 8 n) (digit 16 n) (digit 24 n) a b c d d0 d8 d16 d24

-- what a run leaves of which a bits stand in the body and the others in the check
abbrev seam : ℕ → ℕ → ℕ
seam a r = bit_xor (steps a (r % 2 ^ a)) (swap (r / 2 ^ a))

seam_linear : (a : ℕ) → Linear (seam a)
seam_linear a x y =
    ap (λ z. bit_xor (steps a z) (swap (bit_xor x y / 2 ^ a))) (xor_mod x y a)
    ∙ ap (λ z. bit_xor z (swap (bit_xor x y / 2 ^ a))) (steps_linear a (x % 2 ^ a) (y % 2 ^ a))
    ∙ ap (λ z. bit_xor (bit_xor (steps a (x % 2 ^ a)) (steps a (y % 2 ^ a))) (swap z)) (xor_shr x y a)
    ∙ ap (bit_xor (bit_xor (steps a (x % 2 ^ a)) (steps a (y % 2 ^ a)))) (swap_linear (x / 2 ^ a) (y / 2 ^ a))
    ∙ swap4 (steps a (x % 2 ^ a)) (steps a (y % 2 ^ a)) (swap (x / 2 ^ a)) (swap (y / 2 ^ a))

unfoldable seams : ℕ → Bool
seams zero = true
seams (suc a) = independent 30 (seam (suc a)) && seams a

seams_computed : seams 29 ≡ true
unfolding seams independent lowest steps
seams_computed = refl

seam-at : (n a : ℕ) → seams n ≡ true → 0 < a → a ≤ n → independent 30 (seam a) ≡ true
unfolding seams
seam-at zero a t pos le = absurd (omega arith)
seam-at (suc n) a t pos le =
    let p = and_parts (independent 30 (seam (suc n))) (seams n) t in
    go p (cases_eq a (suc n)) (λ l. seam-at n a p.1 pos l)
  where
    go : (independent 30 (seam (suc n)) ≡ true) × (seams n ≡ true) → ((a ≡ suc n) ⊎ (a ≡ suc n → ⊥)) → (a ≤ n → independent 30 (seam a) ≡ true) → independent 30 (seam a) ≡ true
    go p (inl e) r = ap (λ x. independent 30 (seam x)) e ∙ p.0
    go p (inr e) r = r (omega arith)

-- bits that are 0 at first go out with no trace
strip : (k y : ℕ) → steps k (y * 2 ^ k) ≡ y
unfolding steps
strip zero y = omega arith
strip (suc k) y = let q : y * 2 ^ suc k ≡ y * 2 ^ k * 2 = ap (λ x. y * x) (pow-suc 2 k) ∙ sym (mul_assoc y (2 ^ k) 2) in ap (λ x. steps k (bit_step x)) q ∙ ap (steps k) (even (y * 2 ^ k)) ∙ strip k y

-- high and low part of a number
high_same : (n a b c d : ℕ) → b < 2 ^ n → d < 2 ^ n → a * 2 ^ n + b ≡ c * 2 ^ n + d → a ≡ c
high_same n a b c d hb hd e = sym (shr_high a n b hb) ∙ ap (λ x. x / 2 ^ n) e ∙ shr_high c n d hd

low_same : (n a b c d : ℕ) → b < 2 ^ n → d < 2 ^ n → a * 2 ^ n + b ≡ c * 2 ^ n + d → b ≡ d
low_same n a b c d hb hd e = sym (mod_low a n b hb) ∙ ap (λ x. x % 2 ^ n) e ∙ mod_low c n d hd

module _ (n k r d f : ℕ) (pos : 0 < r) (short : r < 2 ^ 30) (hd : d < 2 ^ n) (hf : f < 2 ^ 32) (is : f * 2 ^ n + d ≡ r * 2 ^ k) (left : steps n d ≡ swap f) where
  -- the run stands in the check
  in_check : n ≤ k → ⊥
  in_check le =
      let j : ℕ = k - n in
      let e : r * 2 ^ k ≡ r * 2 ^ j * 2 ^ n = ap (λ i. r * 2 ^ i) (let q : k ≡ j + n = omega arith in q) ∙ ap (λ x. r * x) (pow-add 2 j n) ∙ sym (mul_assoc r (2 ^ j) (2 ^ n)) in
      let e0 : f * 2 ^ n + d ≡ r * 2 ^ j * 2 ^ n + 0 = is ∙ e ∙ (let q : r * 2 ^ j * 2 ^ n ≡ r * 2 ^ j * 2 ^ n + 0 = omega arith in q) in
      let hz : 0 < 2 ^ n = pow_pos n in
      let ef : f ≡ r * 2 ^ j = high_same n f d (r * 2 ^ j) 0 hd hz e0 in
      let ed : d ≡ 0 = low_same n f d (r * 2 ^ j) 0 hd hz e0 in
      let z : swap f ≡ 0 = sym left ∙ ap (steps n) ed ∙ steps_zero n in
      let fz : f ≡ 0 = swap_kept f hf z in
      let p = mul-pos pos (pow_pos j) in
      omega arith

  -- or begins in the body, a bits before its end
  from-body : (a : ℕ) → 0 < a → n ≡ a + k → ⊥
  from-body a ha en = go (cases_lt a 30)
    where
      low : ℕ
      low = r % 2 ^ a

      parts : r * 2 ^ k ≡ r / 2 ^ a * 2 ^ n + r % 2 ^ a * 2 ^ k
      parts =
          let s : r / 2 ^ a * 2 ^ a + r % 2 ^ a ≡ r = shr_split r a in
          let w : 2 ^ n ≡ 2 ^ a * 2 ^ k = ap (λ i. 2 ^ i) en ∙ pow-add 2 a k in
          ap (λ x. x * 2 ^ k) (sym s) ∙ add-mul (r / 2 ^ a * 2 ^ a) (r % 2 ^ a) (2 ^ k) ∙ ap (λ x. x + r % 2 ^ a * 2 ^ k) (mul_assoc (r / 2 ^ a) (2 ^ a) (2 ^ k) ∙ ap (λ x. r / 2 ^ a * x) (sym w))

      low_lt : r % 2 ^ a * 2 ^ k < 2 ^ n
      low_lt = subst (λ i. r % 2 ^ a * 2 ^ k < 2 ^ i) (sym en) (shl_below (r % 2 ^ a) a k (mod_below r (2 ^ a) (pow_pos a)))

      ef : f ≡ r / 2 ^ a
      ef = high_same n f d (r / 2 ^ a) (r % 2 ^ a * 2 ^ k) hd low_lt (is ∙ parts)

      ed : d ≡ r % 2 ^ a * 2 ^ k
      ed = low_same n f d (r / 2 ^ a) (r % 2 ^ a * 2 ^ k) hd low_lt (is ∙ parts)

      through : steps a (r % 2 ^ a) ≡ swap (r / 2 ^ a)
      through =
          ap (steps a) (sym (strip k (r % 2 ^ a))) ∙ sym (steps-both k a (r % 2 ^ a * 2 ^ k))
          ∙ ap (λ i. steps i (r % 2 ^ a * 2 ^ k)) (let q : k + a ≡ n = omega arith in q) ∙ ap (steps n) (sym ed) ∙ left ∙ ap swap ef

      go : ((a < 30) ⊎ (30 ≤ a)) → ⊥
      go (inl l) =
          let z : seam a r ≡ 0 = ap (λ x. bit_xor x (swap (r / 2 ^ a))) through ∙ xor_self (swap (r / 2 ^ a)) in
          let q : r ≡ 0 = independent_is 30 (seam a) (seam_linear a) (seam-at 29 a seams_computed ha (omega arith)) r short z in
          omega arith
      go (inr l) =
          let w : 2 ^ 30 ≤ 2 ^ a = pow_mono l in
          let rl : r < 2 ^ a = omega arith in
          let whole : r ≡ 0 * 2 ^ a + r = sym (ap (λ x. x + r) (zero-mul (2 ^ a)) ∙ zero-add r) in
          let one : r % 2 ^ a ≡ r = ap (λ x. x % 2 ^ a) whole ∙ mod_low 0 a r rl in
          let none : r / 2 ^ a ≡ 0 = ap (λ x. x / 2 ^ a) whole ∙ shr_high 0 a r rl in
          let z : steps a r ≡ 0 = ap (steps a) (sym one) ∙ through ∙ ap swap none in
          let q : r ≡ 0 = steps_kept a r (omega arith) z in
          omega arith

  run-seen : ⊥
  run-seen = go (cases_lt k n)
    where
      go : ((k < n) ⊎ (n ≤ k)) → ⊥
      go (inl l) = from-body (n - k) (omega arith) (omega arith)
      go (inr l) = in_check l

-- of packets

number_append : (xs ys : List ℕ) → number_of (xs ++ ys) ≡ number_of ys * 2 ^ (8 * length xs) + number_of xs
number_append [] ys = omega arith
number_append (x ∷ xs) ys =
    let w : 2 ^ (8 * suc (length xs)) ≡ 2 ^ (8 * length xs) * 2 ^ 8 = ap (λ k. 2 ^ k) (let q : 8 * suc (length xs) ≡ 8 * length xs + 8 = omega arith in q) ∙ pow-add 2 (8 * length xs) 8 in
    let v : number_of ys * 2 ^ (8 * suc (length xs)) ≡ number_of ys * 2 ^ (8 * length xs) * 2 ^ 8 = ap (λ x. number_of ys * x) w ∙ sym (mul_assoc (number_of ys) (2 ^ (8 * length xs)) (2 ^ 8)) in
    let r = number_append xs ys in
    omega arith

whole-number : (s : List ℕ) → number_of s ≡ number_of (check_of s) * 2 ^ (8 * (length s - 4)) + number_of (body s)
whole-number s = ap number_of (sym (take-append-drop (length s - 4) s)) ∙ number_append (body s) (check_of s) ∙ ap (λ l. number_of (check_of s) * 2 ^ (8 * l) + number_of (body s)) (body-length s)

check_number : (s : List ℕ) (n : ℕ) → Bytes s → length s ≡ n + 4 → swap (number_of (drop n s)) ≡ number32 s n
check_number s n h l = ap (λ t. swap (number_of t)) (last4 s n l) ∙ swap-number _ _ _ _ (h n) (h (n + 1)) (h (n + 2)) (h (n + 3))

check_lt : (s : List ℕ) (n : ℕ) → Bytes s → length s ≡ n + 4 → number_of (drop n s) < 2 ^ 32
check_lt s n h l =
    subst (λ t. number_of t < 2 ^ 32) (sym (last4 s n l))
    (let a = h n in let b = h (n + 1) in let c = h (n + 2) in let d = h (n + 3) in let q : number_of (from4 s n) < 2 ^ 32 = omega arith in q)

body_lt : (s : List ℕ) → Bytes s → number_of (body s) < 2 ^ (8 * (length s - 4))
body_lt s h = subst (λ l. number_of (body s) < 2 ^ (8 * l)) (body-length s) (number_lt (body s) (body_bytes s _ h))

pub short_run_is_refused_lem : (s t : List ℕ) (p : m.Packet) → Bytes s → Bytes t → length s ≡ length t → decode s ≡ Ok p
    → (first run : ℕ) → 0 < run → run < 2 ^ 30 → bit_xor (number_of s) (number_of t) ≡ run * 2 ^ first → Refused t
short_run_is_refused_lem s t p h k l e first run pos short differs = refused t (λ q f.
    let n : ℕ = length s - 4 in
    let long = (took s p e).long in
    let ls : length s ≡ n + 4 = omega arith in
    let lt : length t ≡ n + 4 = omega arith in
    let same : length t - 4 ≡ n = omega arith in
    let bt : number_of (take n t) < 2 ^ (8 * n) = subst (λ i. number_of (take i t) < 2 ^ (8 * i)) same (body_lt t k) in
    let wt : number_of t ≡ number_of (drop n t) * 2 ^ (8 * n) + number_of (take n t) = subst (λ i. number_of t ≡ number_of (drop i t) * 2 ^ (8 * i) + number_of (take i t)) same (whole-number t) in
    let all : bit_xor (number_of s) (number_of t) ≡ bit_xor (number_of (check_of s)) (number_of (drop n t)) * 2 ^ (8 * n) + bit_xor (number_of (body s)) (number_of (take n t)) =
    ap (λ x. bit_xor x (number_of t)) (whole-number s) ∙ ap (bit_xor (number_of (check_of s) * 2 ^ (8 * n) + number_of (body s))) wt
    ∙ xor_block (8 * n) (number_of (check_of s)) (number_of (drop n t)) (number_of (body s)) (number_of (take n t)) (body_lt s h) bt in
    let seal-t : number32 t n ≡ crc_of (take n t) = subst (λ i. number32 t i ≡ crc_of (take i t)) same (seal t q f) in
    let len : length (body s) ≡ length (take n t) = subst (λ i. length (body s) ≡ length (take i t)) same (same_length s t l) in
    let left : steps (8 * n) (bit_xor (number_of (body s)) (number_of (take n t))) ≡ swap (bit_xor (number_of (check_of s)) (number_of (drop n t))) =
    ap (λ i. steps (8 * i) (bit_xor (number_of (body s)) (number_of (take n t)))) (sym (body-length s))
    ∙ sym (crc_apart (body s) (take n t) (body_bytes s n h) (body_bytes t n k) len)
    ∙ ap (λ x. bit_xor x (crc_of (take n t))) (sym (seal s p e)) ∙ ap (bit_xor (number32 s n)) (sym seal-t)
    ∙ ap (λ x. bit_xor x (number32 t n)) (sym (check_number s n h ls)) ∙ ap (bit_xor (swap (number_of (check_of s)))) (sym (check_number t n k lt))
    ∙ sym (swap_linear (number_of (check_of s)) (number_of (drop n t))) in
    run-seen (8 * n) first run (bit_xor (number_of (body s)) (number_of (take n t))) (bit_xor (number_of (check_of s)) (number_of (drop n t))) pos short
    (xor_lt (8 * n) (number_of (body s)) (number_of (take n t)) (body_lt s h) bt) (xor_lt 32 (number_of (check_of s)) (number_of (drop n t)) (check_lt s n h ls) (check_lt t n k lt))
    (sym all ∙ differs) left)

-- one packet, "abc" or "ab>", with the last byte and three of the check's changed

header : List ℕ
header = 3 ∷ 1 ∷ 0 ∷ 3 ∷ 0 ∷ 0 ∷ 0 ∷ 0 ∷ 0 ∷ 0 ∷ 0 ∷ 7 ∷ 0 ∷ 0 ∷ 0 ∷ 0 ∷ 0 ∷ 0 ∷ 0 ∷ 9 ∷ 0 ∷ 0 ∷ 0 ∷ 0 ∷ 0 ∷ 0 ∷ 0 ∷ 2 ∷ 0 ∷ 0 ∷ 0 ∷ 0 ∷ 0 ∷ 0 ∷ 0 ∷ 5 ∷ 0 ∷ 0 ∷ 0 ∷ 0 ∷ 0 ∷ 1 ∷ 0 ∷ 5 ∷ []

abbrev made_of : ℕ → m.Packet
made_of b = record { kind = m.Text; from = 7; to = 9; place = 2; text = 97 ∷ 98 ∷ b ∷ []; last = true; upto = 5; all = false; edge = 65541 }

pub open-seam : OpenSeam
unfolding header byte_step eight_steps
open-seam = record {
  s = header ++ 97 ∷ 98 ∷ 99 ∷ 199 ∷ 91 ∷ 151 ∷ 32 ∷ [];
  t = header ++ 97 ∷ 98 ∷ 62 ∷ 41 ∷ 86 ∷ 1 ∷ 32 ∷ [];
  p = made_of 99;
  q = made_of 62;
  was = refl;
  became = refl;
  run = record { first = 368; run = 0x960dee5d; some = omega arith; short = omega arith; differs = refl };
}
