-- The bits of a word.
use Rattle.std.proofs.Common.{◌≡◌, ℕ, zero, suc, ◌+◌, ◌-◌, ◌*◌, ◌/◌, ◌%◌, ◌^◌, ◌<◌, ◌≤◌, min, Bool, true, false, cond, not, ◌&&◌, ltb, leb, eqb, sym, refl, ap, ◌∙◌, ⊎_elim, arith, pow_pos, shr-shr}
use Rattle.std.proofs.Math.Bool.{not-not}
use lib.Bits.{bit_and, bit_or}
use lib.Count.{count_trailing_zeros, under}
use Rattle.std.specs.Int.{bit_at, w64}
use Rattle.std.proofs.lemmas.Bool.{eq-eqb, ne_eqb, cases_eq, cases_lt}
use Rattle.std.proofs.lemmas.Bool.Decides.{nat_tests}
use Rattle.std.proofs.Math.Nat.{mul-sub}
use Rattle.std.proofs.Math.Pow.{pow_mono}
use Rattle.std.proofs.lemmas.Nat.{and_le_l, pow-add}
use Rattle.std.proofs.lemmas.Nat.Bits.{bit_at-zero, shr_and_one, bit_at_and, bit_at_or, bit_at_not, bit_at-lt, bit_at_ones, bit_at_ones_above, bit_at_mask_inside, bit_at_mask_below, bit_at_mask_above, ones_shl, ones_shr}
use Rattle.lent.specs.Bits.{bit}

-- a digit as a truth value
pub digit_up : (w j : ℕ) → bit_at w j ≡ 1 → bit w j ≡ true
unfolding bit
digit_up w j e = eq-eqb (bit_at w j) 1 e

pub digit_down : (w j : ℕ) → bit_at w j ≡ 0 → bit w j ≡ false
unfolding bit
digit_down w j e = ne_eqb (bit_at w j) 1 (omega arith)

digit_same : (v w j : ℕ) → bit_at v j ≡ bit_at w j → bit v j ≡ bit w j
unfolding bit
digit_same v w j e = ap (λ d. eqb d 1) e

pub bit_none : (j : ℕ) → bit 0 j ≡ false
bit_none j = digit_down 0 j (bit_at-zero j)

pub bit-read : (w j : ℕ) → eqb (bit_and (w / 2 ^ j) 1) 1 ≡ bit w j
unfolding bit
bit-read w j = ap (λ d. eqb d 1) (shr_and_one w j)

-- a word's bit is up where its complement's is down
pub bit_not : (w j : ℕ) → w < 2 ^ 64 → j < 64 → bit (2 ^ 64 - 1 - w) j ≡ not (bit w j)
bit_not w j l h =
    let e = bit_at_not w64 w j l h in
    ⊎_elim
    (λ (z : bit_at w j ≡ 0). digit_up (2 ^ 64 - 1 - w) j (omega arith) ∙ sym (ap not (digit_down w j z)))
    (λ (ne : bit_at w j ≡ 0 → ⊥). let o = bit_at-lt w j in digit_down (2 ^ 64 - 1 - w) j (omega arith) ∙ sym (ap not (digit_up w j (omega arith))))
    (cases_eq (bit_at w j) 0)

-- a word with some of its bits put as v says
one_of : (c v : Bool) (r w j : ℕ) → (c ≡ true → bit r j ≡ v) → (c ≡ false → bit r j ≡ bit w j) → bit r j ≡ cond c v (bit w j)
one_of true v r w j a b = a refl
one_of false v r w j a b = b refl

-- the word's bits where a mask has a 1, put up or down
module _ (w mask j : ℕ) (c : Bool) (at : bit_at mask j ≡ cond c 1 0) where
  up_by : bit (bit_or w mask) j ≡ cond c true (bit w j)
  up_by = one_of c true (bit_or w mask) w j
      (λ e. let m : bit_at mask j ≡ 1 = at ∙ ap (λ b. cond b 1 0) e in digit_up (bit_or w mask) j (let o = bit_at_or w mask j in let l = bit_at-lt w j in omega arith))
      (λ e. let m : bit_at mask j ≡ 0 = at ∙ ap (λ b. cond b 1 0) e in digit_same (bit_or w mask) w j (let o = bit_at_or w mask j in omega arith))

  down_by : mask < 2 ^ 64 → j < 64 → bit (bit_and w (2 ^ 64 - 1 - mask)) j ≡ cond c false (bit w j)
  down_by small here = one_of c false (bit_and w (2 ^ 64 - 1 - mask)) w j
      (λ e. let m : bit_at mask j ≡ 1 = at ∙ ap (λ b. cond b 1 0) e in digit_down (bit_and w (2 ^ 64 - 1 - mask)) j (let a = bit_at_and w (2 ^ 64 - 1 - mask) j in omega (arith, flip)))
      (λ e. let m : bit_at mask j ≡ 0 = at ∙ ap (λ b. cond b 1 0) e in digit_same (bit_and w (2 ^ 64 - 1 - mask)) w j (let a = bit_at_and w (2 ^ 64 - 1 - mask) j in let l = bit_at-lt w j in omega (arith, flip)))
    where
      flip : bit_at (2 ^ 64 - 1 - mask) j ≡ 1 - bit_at mask j
      flip = bit_at_not w64 mask j small here

-- a row of c ones, which begins at f
row_is : (f c : ℕ) → (2 ^ c - 1) * 2 ^ f ≡ 2 ^ (f + c) - 2 ^ f
row_is f c = let p = pow-add 2 f c in let m = mul-sub (2 ^ f) (2 ^ c) 1 in omega arith

-- the bits under such a row, put up or down
module _ (w m f c j : ℕ) (em : m ≡ (2 ^ c - 1) * 2 ^ f) where
  row_at : bit_at m j ≡ cond (leb f j && ltb j (f + c)) 1 0
  row_at = ap (λ n. bit_at n j) (em ∙ row_is f c) ∙ ⊎_elim
      (λ (l : j < f). bit_at_mask_below f (f + c) j l ∙ grind (arith, nat_tests))
      (λ (l : f ≤ j). ⊎_elim
      (λ (h : j < f + c). bit_at_mask_inside f (f + c) j l h ∙ grind (arith, nat_tests))
      (λ (h : f + c ≤ j). bit_at_mask_above f (f + c) j h ∙ grind (arith, nat_tests))
      (cases_lt j (f + c)))
      (cases_lt j f)

  pub marked-up : bit (bit_or w m) j ≡ cond (leb f j && ltb j (f + c)) true (bit w j)
  marked-up = up_by w m j (leb f j && ltb j (f + c)) row_at

  pub marked_down : f + c ≤ 64 → j < 64 → bit (bit_and w (2 ^ 64 - 1 - m)) j ≡ cond (leb f j && ltb j (f + c)) false (bit w j)
  marked_down le here = down_by w m j (leb f j && ltb j (f + c)) row_at small here
    where
      small : m < 2 ^ 64
      small = let r = em ∙ row_is f c in let top = pow_mono le in let some = pow_pos f in omega arith

-- the word's bits from f up to t, put up or down
module _ (w f t j : ℕ) (before : f < 64) (some : 0 < t) (within : t ≤ 64) (here : j < 64) where
  abbrev mask : ℕ
  mask = bit_and ((2 ^ 64 - 1) * 2 ^ f % 2 ^ 64) ((2 ^ 64 - 1) / 2 ^ (64 - t))

  mask_at : bit_at mask j ≡ cond (leb f j && ltb j t) 1 0
  mask_at =
      let both = bit_at_and ((2 ^ 64 - 1) * 2 ^ f % 2 ^ 64) ((2 ^ 64 - 1) / 2 ^ (64 - t)) j in
      let from : bit_at ((2 ^ 64 - 1) * 2 ^ f % 2 ^ 64) j ≡ cond (leb f j) 1 0 = ap (λ m. bit_at m j) (ones_shl 64 f (omega arith)) ∙ ⊎_elim (λ (l : j < f). bit_at_mask_below f 64 j l ∙ grind (arith, nat_tests)) (λ (l : f ≤ j). bit_at_mask_inside f 64 j l here ∙ grind (arith, nat_tests)) (cases_lt j f) in
      let size : 64 - (64 - t) ≡ t = omega arith in
      let upto : bit_at ((2 ^ 64 - 1) / 2 ^ (64 - t)) j ≡ cond (ltb j t) 1 0 = ap (λ m. bit_at m j) (ones_shr 64 (64 - t) (omega arith)) ∙ ap (λ k. bit_at (2 ^ k - 1) j) size ∙ ⊎_elim (λ (l : j < t). bit_at_ones t j l ∙ grind (arith, nat_tests)) (λ (l : t ≤ j). bit_at_ones_above t j l ∙ grind (arith, nat_tests)) (cases_lt j t) in
      grind (arith, nat_tests)

  pub marked_up : bit (bit_or w mask) j ≡ cond (leb f j && ltb j t) true (bit w j)
  marked_up = up_by w mask j (leb f j && ltb j t) mask_at

  pub marked_down_to : bit (bit_and w (2 ^ 64 - 1 - mask)) j ≡ cond (leb f j && ltb j t) false (bit w j)
  marked_down_to = down_by w mask j (leb f j && ltb j t) mask_at (let l = and_le_l ((2 ^ 64 - 1) * 2 ^ f % 2 ^ 64) ((2 ^ 64 - 1) / 2 ^ (64 - t)) in omega arith) here

-- below its lowest digit that is set, a number has zeros
trailing_below : (k n j : ℕ) → j < count_trailing_zeros k n → bit_at n j ≡ 0
unfolding count_trailing_zeros
trailing_below zero n j l = absurd (omega arith)
trailing_below (suc k) n j l = go (n % 2) refl j l (λ i h. trailing_below k (n / 2) i h)
  where
    go : (d : ℕ) → n % 2 ≡ d → (j : ℕ) → j < under d (count_trailing_zeros k (n / 2)) → ((i : ℕ) → i < count_trailing_zeros k (n / 2) → bit_at (n / 2) i ≡ 0) → bit_at n j ≡ 0
    go zero e zero h r = let o : n / 1 ≡ n = omega arith in omega arith
    go zero e (suc i) h r = let next : suc i ≡ 1 + i = omega arith in ap (bit_at n) next ∙ ap (λ m. m % 2) (sym (shr-shr n 1 i)) ∙ r i (omega arith)
    go (suc d) e j h r = absurd (omega arith)

-- above the zeros at its low end, a number has a one
trailing_at : (k n : ℕ) → count_trailing_zeros k n < k → bit_at n (count_trailing_zeros k n) ≡ 1
unfolding count_trailing_zeros
trailing_at zero n l = absurd (omega arith)
trailing_at (suc k) n l = go (n % 2) refl l (λ h. trailing_at k (n / 2) h)
  where
    go : (d : ℕ) → n % 2 ≡ d → under d (count_trailing_zeros k (n / 2)) < suc k → (count_trailing_zeros k (n / 2) < k → bit_at (n / 2) (count_trailing_zeros k (n / 2)) ≡ 1) → bit_at n (under d (count_trailing_zeros k (n / 2))) ≡ 1
    go zero e h r = let next : suc (count_trailing_zeros k (n / 2)) ≡ 1 + count_trailing_zeros k (n / 2) = omega arith in ap (bit_at n) next ∙ ap (λ m. m % 2) (sym (shr-shr n 1 (count_trailing_zeros k (n / 2)))) ∙ r (omega arith)
    go (suc d) e h r = omega arith

-- a run of bits that are down, n of them from f on
module _ (w f n : ℕ) (en : n ≡ min (count_trailing_zeros 64 (w / 2 ^ f)) (64 - f)) where
  shifted : (i : ℕ) → bit_at (w / 2 ^ f) i ≡ bit_at w (f + i)
  shifted i = ap (λ k. k % 2) (shr-shr w f i)

  pub run_down : (j : ℕ) → f ≤ j → j < f + n → bit w j ≡ false
  run_down j lo hi =
      let e : f + (j - f) ≡ j = omega arith in
      digit_down w j (ap (bit_at w) (sym e) ∙ sym (shifted (j - f)) ∙ trailing_below 64 (w / 2 ^ f) (j - f) (omega arith))

  pub run_gap : f + n < 64 → bit w (f + n) ≡ true
  run_gap h =
      let e : n ≡ count_trailing_zeros 64 (w / 2 ^ f) = omega arith in
      digit_up w (f + n) (sym (shifted n) ∙ ap (bit_at (w / 2 ^ f)) e ∙ trailing_at 64 (w / 2 ^ f) (omega arith))

-- a run of bits that are down, from f up to n
module _ (w f n : ℕ) (en : n ≡ min (f + count_trailing_zeros 64 (w / 2 ^ f)) 64) where
  all_down : (j : ℕ) → f ≤ j → j < n → bit w j ≡ false
  all_down j lo hi = run_down w f (n - f) (omega arith) j lo (omega arith)

  then_up : n < 64 → bit w n ≡ true
  then_up h = let e : f + (n - f) ≡ n = omega arith in sym (ap (bit w) e) ∙ run_gap w f (n - f) (omega arith) (omega arith)

-- a run of bits that are as v says, from f up to n: the others are down in `turned`
module _ (v : Bool) (w turned f n : ℕ) (size : w < 2 ^ 64) (et : turned ≡ cond v (2 ^ 64 - 1 - w) w) (en : n ≡ min (f + count_trailing_zeros 64 (turned / 2 ^ f)) 64) where
  as_turned : (j : ℕ) (b : Bool) → j < 64 → bit turned j ≡ b → bit w j ≡ cond v (not b) b
  as_turned j b l e = go v b et e
    where
      go : (u b : Bool) → turned ≡ cond u (2 ^ 64 - 1 - w) w → bit turned j ≡ b → bit w j ≡ cond u (not b) b
      go true b h e = sym (not-not (bit w j)) ∙ ap not (sym (bit_not w j size l) ∙ sym (ap (λ x. bit x j) h) ∙ e)
      go false b h e = sym (ap (λ x. bit x j) h) ∙ e

  pub run_all : (j : ℕ) → f ≤ j → j < n → bit w j ≡ v
  run_all j lo hi = as_turned j false (omega arith) (all_down turned f n en j lo hi) ∙ same v
    where
      same : (u : Bool) → cond u true false ≡ u
      same true = refl
      same false = refl

  pub run_end_gap : n < 64 → bit w n ≡ not v
  run_end_gap h = as_turned n true h (then_up turned f n en h) ∙ other v
    where
      other : (u : Bool) → cond u false true ≡ not u
      other true = refl
      other false = refl
