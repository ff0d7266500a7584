-- What stands at the front of a line, by its first bytes.
use Rattle.std.proofs.Common.{◌≡◌, ℕ, suc, ◌+◌, ◌-◌, ◌*◌, ◌<◌, ◌≤◌, Bool, true, false, eqb, List, [], ◌∷◌, length, get_or, take, drop, Some, None, Ok, Err, refl, ap, arith}
use Rattle.std.specs.List.{prefix_len, position, position_or_len, zip}
use Rattle.std.proofs.lemmas.List.{drop_more, drop_all, take_all, take_rest}
use Rattle.std.proofs.lemmas.Bool.{le-leb, lt-leb}
use Rattle.std.proofs.lemmas.Bool.Decides.{nat_tests}
use Rattle.text.specs.Fronts.{strip, digits, is_digit, split_line}

-- how many bytes of a line are those of a word
abbrev pub same_len : List ℕ → List ℕ → ℕ
same_len bs ws = prefix_len (λ p. eqb p.0 p.1) (zip bs ws)

-- what is behind those, where they are the whole word and where they are not
record Strips (ws bs : List ℕ) (k : ℕ) : Type 0 where
  all : k ≡ length ws → Ok (drop k bs) ≡ strip ws bs
  some : (k ≡ length ws → ⊥) → Err (drop k bs) ≡ strip ws bs

strips : (ws bs : List ℕ) → Strips ws bs (same_len bs ws)
unfolding strip
strips [] [] = record { all = λ e. refl; some = λ n. absurd (n refl) }
strips [] (b ∷ bs) = record { all = λ e. refl; some = λ n. absurd (n refl) }
strips (w ∷ ws) [] = record { all = λ e. absurd (omega (arith, e)); some = λ n. refl }
strips (w ∷ ws) (b ∷ bs) = go (eqb b w) refl (strips ws bs)
  where
    go : (t : Bool) → eqb b w ≡ t → Strips ws bs (same_len bs ws) → Strips (w ∷ ws) (b ∷ bs) (same_len (b ∷ bs) (w ∷ ws))
    go true e h =
        let s : same_len (b ∷ bs) (w ∷ ws) ≡ suc (same_len bs ws) = rw e (omega arith) in
        rw s record { all = λ k. rw e (h.all (omega arith)); some = λ n. rw e (h.some (λ k. n (omega (arith, k)))) }
    go false e h =
        let s : same_len (b ∷ bs) (w ∷ ws) ≡ 0 = rw e in
        rw s record { all = λ k. absurd (omega (arith, k)); some = λ n. rw e }

pub strip_all : (line word : List ℕ) → same_len line word ≡ length word → Ok (take (length line - same_len line word) (drop (same_len line word) line)) ≡ strip word line
strip_all line word e = rw (take_rest line (same_len line word)) ((strips word line).all e)

pub strip_some : (line word : List ℕ) → (same_len line word ≡ length word → ⊥) → Err (take (length line - same_len line word) (drop (same_len line word) line)) ≡ strip word line
strip_some line word n = rw (take_rest line (same_len line word)) ((strips word line).some n)

module _ (most n : ℕ) (bs : List ℕ) (i : ℕ) where
  pub digits_more : i < length bs → is_digit (get_or bs i 0) ≡ true → 10 * n + (get_or bs i 0 - 48) ≤ most → digits most n (drop i bs) ≡ digits most (10 * n + (get_or bs i 0 - 48)) (drop (i + 1) bs)
  unfolding digits
  digits_more v d l = rw (drop_more bs i 0 v, d, le-leb _ _ l)

  pub digits_stop : i < length bs → is_digit (get_or bs i 0) ≡ false → Ok (n, take (length bs - i) (drop i bs)) ≡ digits most n (drop i bs)
  unfolding digits
  digits_stop v d = rw (take_rest bs i, drop_more bs i 0 v, d)

  pub digits_past : i < length bs → is_digit (get_or bs i 0) ≡ true → most < 10 * n + (get_or bs i 0 - 48) → Err (take (length bs - i) (drop i bs)) ≡ digits most n (drop i bs)
  unfolding digits
  digits_past v d l = rw (take_rest bs i, drop_more bs i 0 v, d, lt-leb _ _ l)

  pub digits_all : length bs ≤ i → Ok (n, []) ≡ digits most n (drop i bs)
  unfolding digits
  digits_all v = rw (drop_all i bs v)

abbrev feed_at : List ℕ → ℕ
feed_at s = position_or_len (λ b. eqb b 10) s

split_by : (s : List ℕ) → split_line s ≡ (take (feed_at s) s, drop (feed_at s + 1) s)
unfolding split_line
split_by [] = refl
split_by (b ∷ bs) = go (eqb b 10) refl (split_by bs)
  where
    go : (t : Bool) → eqb b 10 ≡ t → split_line bs ≡ (take (feed_at bs) bs, drop (feed_at bs + 1) bs) → split_line (b ∷ bs) ≡ (take (feed_at (b ∷ bs)) (b ∷ bs), drop (feed_at (b ∷ bs) + 1) (b ∷ bs))
    go true e h = rw e
    go false e h =
        let s : feed_at (b ∷ bs) ≡ suc (feed_at bs) = rw e (omega arith) in
        let k : suc (feed_at bs) + 1 ≡ suc (feed_at bs + 1) = omega arith in
        rw (s, k, e) (ap (λ z. (b ∷ z.0, z.1)) h)

module _ (s : List ℕ) where
  pub split_here : (i : ℕ) → Some i ≡ position (λ b. eqb b 10) s → (take i s ≡ (split_line s).0) × (take (length s - (i + 1)) (drop (i + 1) s) ≡ (split_line s).1)
  split_here i e =
      let k : i ≡ feed_at s = grind (arith, nat_tests) in
      rw (take_rest s (i + 1), split_by s, k) (refl, refl)

  pub split_all : None ≡ position (λ b. eqb b 10) s → (s ≡ (split_line s).0) × (◌≡◌ {A = List ℕ} [] (split_line s).1)
  split_all e =
      let k : length s ≤ feed_at s = grind (arith, nat_tests) in
      let l : length s ≤ feed_at s + 1 = omega arith in
      rw (split_by s, take_all (feed_at s) s k, drop_all (feed_at s + 1) s l) (refl, refl)
