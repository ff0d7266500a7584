-- Orders of sixteen lanes: the list of those in use, and a place that is moved to its end.
use Rattle.std.proofs.Common.{◌≡◌, ℕ, zero, suc, ◌+◌, ◌-◌, ◌<◌, ◌≤◌, false, cond, eqb, ltb, List, [], ◌∷◌, length, reverse, get_or, length-take, Some, None, Option, take, sym, refl, ap, ◌∙◌, arith}
use Rattle.std.specs.List.{AllWithin, HoldsAt, RotatedLeft}
use Rattle.std.specs.Option.{MatchOption}
use Rattle.std.proofs.Math.Seq.{take-suc}
use Rattle.std.proofs.lemmas.List.{get_or-take, places, reverse-append, reverse-reverse}
use Rattle.std.proofs.lemmas.Bool.Decides.{nat_tests}
use borrow.Rule.Slice.PartMut.{put_mid, mid_of}
use Rattle.lanes.specs.Order.{Apart, Low, front}
use Rattle.lanes.specs.Used.{Placed, Separate, is_in, used, without}
use Rattle.lanes.specs.declared.Lanes.{Lanes}

-- the first n in their order, which `front` has the last of first
pub reverse-take : (n : ℕ) (xs : List ℕ) → n ≤ length xs → reverse (take n xs) ≡ front n xs
reverse-take zero xs h = refl
reverse-take (suc n) xs h =
    let ih = reverse-take n xs (omega arith) in
    rw (take-suc xs n 0, reverse-append) (ap (λ ys. get_or xs n 0 ∷ ys) ih)

pub take_of : (n : ℕ) (xs ys : List ℕ) → n ≤ length xs → reverse ys ≡ front n xs → ys ≡ take n xs
take_of n xs ys h e = sym (reverse-reverse ys) ∙ ap reverse (e ∙ sym (reverse-take n xs h)) ∙ reverse-reverse (take n xs)

pub length_front : (n : ℕ) (xs : List ℕ) → length (front n xs) ≡ n
length_front zero xs = refl
length_front (suc n) xs = ap suc (length_front n xs)

-- what stands at no place below n is not among the first n
pub front_out : (l n : ℕ) (xs : List ℕ) → ((k : ℕ) → k < n → get_or xs k 0 ≡ l → ⊥) → is_in l (front n xs) ≡ false
front_out l zero xs h = refl
front_out l (suc n) xs h = let r = front_out l n xs (λ k lt. h k (omega arith)) in grind (arith, nat_tests, h n)

-- the first n are lanes, each once
pub front_separate : (n : ℕ) (xs : List ℕ) → n ≤ 16 → Low xs → Apart xs → Separate (front n xs)
front_separate zero xs h low apart = tt
front_separate (suc n) xs h low apart =
    (low n, front_out (get_or xs n 0) n xs (λ k lt e. let q = apart k n (omega arith, omega arith, e) in omega arith), front_separate n xs (omega arith) low apart)

pub used_separate : (x : Lanes) → Separate (used x)
used_separate x = front_separate x.count x.order x.few x.low x.apart

pub without_out : (l : ℕ) (ks : List ℕ) → is_in l ks ≡ false → without l ks ≡ ks
without_out l [] h = refl
without_out l (k ∷ ks) h = let r = without_out l ks in grind (arith, nat_tests)

-- where the entry at a place comes from, when the one at i goes to the place last
abbrev source : ℕ → ℕ → ℕ → ℕ
source i last j = cond (ltb j i) j (cond (ltb j last) (j + 1) (cond (eqb j last) i j))

source_one : (i last j k : ℕ) → i ≤ last → source i last j ≡ source i last k → j ≡ k
source_one i last j k h e = grind (arith, nat_tests)

source_low : (i last j : ℕ) → i ≤ last → last < 16 → j < 16 → source i last j < 16
source_low i last j h l lt = grind (arith, nat_tests)

-- what turning the places from i to last by one leaves at each place
module _ (xs ys : List ℕ) (i k last : ℕ) (e : i + k ≡ last + 1) (le : i ≤ last) (lt : last < length xs) (size : length ys ≡ length (mid_of i k xs)) (t : RotatedLeft (mid_of i k xs) ys (length (mid_of i k xs)) 1) where
  long : length (mid_of i k xs) ≡ k
  long = grind (arith, places)

  at_mid : (m : ℕ) → m < k → get_or (mid_of i k xs) m 0 ≡ get_or xs (i + m) 0
  at_mid m h = grind (arith, places)

  below : (j : ℕ) → j < i → get_or (put_mid i k xs ys) j 0 ≡ get_or xs j 0
  below j h = grind (arith, places)

  inside : (j : ℕ) → i ≤ j → j ≤ last → get_or (put_mid i k xs ys) j 0 ≡ get_or ys (j - i) 0
  inside j h g = grind (arith, places, long)

  above : (j : ℕ) → last < j → get_or (put_mid i k xs ys) j 0 ≡ get_or xs j 0
  above j h = grind (arith, places, long)

  pub from-turned : (j : ℕ) → get_or (put_mid i k xs ys) j 0 ≡ get_or xs (source i last j) 0
  from-turned j = grind (arith, nat_tests, long, below j, inside j, above j, t.0 (j - i) 0, t.1 (j - i) 0, at_mid (j - i + 1), at_mid 0)

-- the place i is moved to the place last
module _ (xs turned : List ℕ) (i last : ℕ) (le : i ≤ last) (from-source : (j : ℕ) → get_or turned j 0 ≡ get_or xs (source i last j) 0) where
  pub turned_low : Low xs → Low turned
  turned_low h k = omega (arith, from-source k, h (source i last k))

  pub turned_apart : last < 16 → Apart xs → Apart turned
  turned_apart l h j k (hj, hk, e) =
      source_one i last j k le (h (source i last j) (source i last k) (source_low i last j le l hj, source_low i last k le l hk, sym (from-source j) ∙ e ∙ from-source k))

  front_same : (n : ℕ) → n ≤ i → front n turned ≡ front n xs
  front_same zero h = refl
  front_same (suc n) h = grind (arith, nat_tests, from-source n, front_same n)

  pub front_less : last < 16 → Apart xs → (n : ℕ) → i ≤ n → n ≤ last → front n turned ≡ without (get_or xs i 0) (front (suc n) xs)
  front_less l h zero lo hi = grind (arith, nat_tests)
  front_less l h (suc n) lo hi = grind (arith, nat_tests, from-source n, front_same (suc n), front_less l h n, h (suc n) i)

-- the lane at place i of the first n is let go
pub record LetGo (xs zs : List ℕ) (i n : ℕ) : Type 0 where
  pub sized : length zs ≡ length xs
  pub low : Low zs
  pub apart : Apart zs
  pub less : front (n - 1) zs ≡ without (get_or xs i 0) (front n xs)

pub let_go : (xs ys : List ℕ) (i n : ℕ) → i < n → n ≤ 16 → length xs ≡ 16 → Low xs → Apart xs →
    length ys ≡ length (mid_of i (n - i) xs) → RotatedLeft (mid_of i (n - i) xs) ys (length (mid_of i (n - i) xs)) 1 → LetGo xs (put_mid i (n - i) xs ys) i n
let_go xs ys i zero h few sized low apart size t = absurd (omega arith)
let_go xs ys i (suc n) h few sized low apart size t =
    let s = from-turned xs ys i (suc n - i) n (omega arith) (omega arith) (omega arith) size t in
    let q : suc n - 1 ≡ n = omega arith in record {
      sized = grind (arith, places);
      low = turned_low xs _ i n (omega arith) s low;
      apart = turned_apart xs _ i n (omega arith) s (omega arith) apart;
      less = ap (λ m. front m (put_mid i (suc n - i) xs ys)) q ∙ front_less xs _ i n (omega arith) s (omega arith) apart n (omega arith) (omega arith);
    }

-- a search among the lanes in use finds the place of one
pub placed : (x : Lanes) (l : ℕ) (xs : List ℕ) (r : Option ℕ) → reverse xs ≡ used x →
    MatchOption r (AllWithin (λ k. k ≡ l → ⊥) xs 0 (length xs)) (λ i. (i < length xs) × HoldsAt (λ k. k ≡ l) xs i × AllWithin (λ k. k ≡ l → ⊥) xs 0 i) → Placed x l r
placed x l xs None e h =
    let t = take_of x.count x.order xs (omega (arith, x.few, x.sized)) e in
    front_out l x.count x.order (λ k lt q. h k 0 (omega arith) (omega (arith, ap length t, length-take x.count x.order, x.few, x.sized)) (ap (λ ys. get_or ys k 0) t ∙ get_or-take x.count x.order k 0 lt ∙ q))
placed x l xs (Some i) e (lt, at, _) =
    let t = take_of x.count x.order xs (omega (arith, x.few, x.sized)) e in
    let le : i < x.count = omega (arith, ap length t, length-take x.count x.order) in
    (le, sym (get_or-take x.count x.order i 0 le) ∙ ap (λ ys. get_or ys i 0) (sym t) ∙ at 0)
