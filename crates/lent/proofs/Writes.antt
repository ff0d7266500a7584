-- Laws of a ring that is written and read.
use Rattle.std.proofs.Common.{◌≡◌, ℕ, zero, suc, ◌+◌, ◌-◌, ◌%◌, ◌<◌, ◌≤◌, cond, ltb, ◌⊎◌, List, [], ◌∷◌, ◌++◌, length, get_or, take, drop, set, sym, refl, ap, ◌∙◌, ⊎_elim, append_assoc, add-zero, suc-add, zero-add, arith, length-set, take-append-drop, take-add}
use borrow.Rule.Slice.PartMut.{put_mid}
use Rattle.std.proofs.lemmas.List.{take_more_set, drop-set-lt, drop-drop, take_at, drop_at, length-take, drop_all, length-drop, length-take-le, drop-append-le, drop_more, append-nil, get_or-set_same, get_or-set_other}
use Rattle.std.proofs.lemmas.Bool.{cases_eq, lt-ltb, le-ltb, cond-true, cond-false}
use Rattle.packet.specs.Sizes.{capacity}
use Rattle.lent.specs.Ring.{written, held}

-- one text after another
pub written-append : (p : ℕ) (xs ys m : List ℕ) → written p (xs ++ ys) m ≡ written (p + length xs) ys (written p xs m)
unfolding written
written-append p [] ys m = ap (λ (n : ℕ). written n ys m) (sym (add-zero p))
written-append p (x ∷ xs) ys m =
    let e : p + 1 + length xs ≡ p + length (x ∷ xs) = omega arith in
    written-append (p + 1) xs ys (set m (p % capacity) x) ∙ ap (λ (n : ℕ). written n ys (written (p + 1) xs (set m (p % capacity) x))) e

pub length-written : (p : ℕ) (bs m : List ℕ) → length (written p bs m) ≡ length m
unfolding written
length-written p [] m = refl
length-written p (b ∷ bs) m = length-written (p + 1) bs (set m (p % capacity) b) ∙ length-set m (p % capacity) b

first-at : (p : ℕ) (bs m : List ℕ) (b q : ℕ) → length (b ∷ bs) ≤ capacity → length m ≡ capacity → q ≡ p →
    get_or (written (p + 1) bs (set m (p % capacity) b)) ((p + capacity) % capacity) 0 ≡ cond (ltb (p + capacity) (p + 1 + length bs)) (get_or bs (p + capacity - (p + 1)) 0) (get_or (set m (p % capacity) b) ((p + capacity) % capacity) 0) →
    get_or (written (p + 1) bs (set m (p % capacity) b)) (q % capacity) 0 ≡ cond (ltb q (p + length (b ∷ bs))) (get_or (b ∷ bs) (q - p) 0) (get_or m (q % capacity) 0)
first-at p bs m b q le size e r =
    let round : (p + capacity) % capacity ≡ q % capacity = omega arith in
    let same : q % capacity ≡ p % capacity = omega arith in
    let first : q - p ≡ 0 = omega arith in
    ap (λ k. get_or (written (p + 1) bs (set m (p % capacity) b)) k 0) (sym round) ∙ r ∙
    cond-false (ltb (p + capacity) (p + 1 + length bs)) (get_or bs (p + capacity - (p + 1)) 0) (get_or (set m (p % capacity) b) ((p + capacity) % capacity) 0) (le-ltb (p + capacity) (p + 1 + length bs) (omega arith)) ∙
    ap (λ k. get_or (set m (p % capacity) b) k 0) (round ∙ same) ∙ get_or-set_same m (p % capacity) b 0 (omega arith) ∙
    sym (cond-true (ltb q (p + length (b ∷ bs))) (get_or (b ∷ bs) (q - p) 0) (get_or m (q % capacity) 0) (lt-ltb q (p + length (b ∷ bs)) (omega arith)) ∙ ap (λ k. get_or (b ∷ bs) k 0) first)

later-at : (p : ℕ) (bs m : List ℕ) (b q : ℕ) → p ≤ q → q < p + capacity → (q ≡ p → ⊥) →
    get_or (written (p + 1) bs (set m (p % capacity) b)) (q % capacity) 0 ≡ cond (ltb q (p + 1 + length bs)) (get_or bs (q - (p + 1)) 0) (get_or (set m (p % capacity) b) (q % capacity) 0) →
    get_or (written (p + 1) bs (set m (p % capacity) b)) (q % capacity) 0 ≡ cond (ltb q (p + length (b ∷ bs))) (get_or (b ∷ bs) (q - p) 0) (get_or m (q % capacity) 0)
later-at p bs m b q lo hi ne r =
    let apart : (q % capacity ≡ p % capacity → ⊥) = omega arith in
    let edge : p + 1 + length bs ≡ p + length (b ∷ bs) = omega arith in
    let next : q - p ≡ suc (q - (p + 1)) = omega arith in
    r ∙ ap (λ k. cond (ltb q (p + 1 + length bs)) (get_or bs (q - (p + 1)) 0) k) (get_or-set_other m (p % capacity) (q % capacity) b 0 apart) ∙
    ap (λ k. cond (ltb q k) (get_or bs (q - (p + 1)) 0) (get_or m (q % capacity) 0)) edge ∙ sym (ap (λ k. cond (ltb q (p + length (b ∷ bs))) (get_or (b ∷ bs) k 0) (get_or m (q % capacity) 0)) next)

-- what stands at each place of the round that begins where the text does
pub written_at : (p : ℕ) (bs m : List ℕ) (q : ℕ) → length bs ≤ capacity → length m ≡ capacity → p ≤ q → q < p + capacity →
    get_or (written p bs m) (q % capacity) 0 ≡ cond (ltb q (p + length bs)) (get_or bs (q - p) 0) (get_or m (q % capacity) 0)
unfolding written
written_at p [] m q le size lo hi = sym (cond-false (ltb q (p + 0)) 0 (get_or m (q % capacity) 0) (le-ltb q (p + 0) (omega arith)))
written_at p (b ∷ bs) m q le size lo hi =
    let size2 : length (set m (p % capacity) b) ≡ capacity = length-set m (p % capacity) b ∙ size in
    ⊎_elim
    (λ (e : q ≡ p). first-at p bs m b q le size e (written_at (p + 1) bs (set m (p % capacity) b) (p + capacity) (omega arith) size2 (omega arith) (omega arith)))
    (λ (ne : q ≡ p → ⊥). later-at p bs m b q lo hi ne (written_at (p + 1) bs (set m (p % capacity) b) q (omega arith) size2 (omega arith) (omega arith)))
    (cases_eq q p)

-- of a round of places that has the text's, those of the text have it, and the others stay
module _ (p : ℕ) (bs m : List ℕ) (start : ℕ) (size : length m ≡ capacity) (lo : start ≤ p) (hi : p + length bs ≤ start + capacity) where
  pub written_in : (q : ℕ) → p ≤ q → q < p + length bs → get_or (written p bs m) (q % capacity) 0 ≡ get_or bs (q - p) 0
  written_in q a b = written_at p bs m q (omega arith) size a (omega arith) ∙ cond-true (ltb q (p + length bs)) (get_or bs (q - p) 0) (get_or m (q % capacity) 0) (lt-ltb q (p + length bs) b)

  pub written_out : (q : ℕ) → start ≤ q → q < start + capacity → (q < p) ⊎ (p + length bs ≤ q) → get_or (written p bs m) (q % capacity) 0 ≡ get_or m (q % capacity) 0
  written_out q a b o = ⊎_elim
      (λ (l : q < p).
      let e : q % capacity ≡ (q + capacity) % capacity = omega arith in
      ap (λ k. get_or (written p bs m) k 0) e ∙ past (q + capacity) (omega arith) (omega arith) ∙ ap (λ k. get_or m k 0) (sym e))
      (λ (l : p + length bs ≤ q). past q l (omega arith))
      o
    where
      past : (r : ℕ) → p + length bs ≤ r → r < p + capacity → get_or (written p bs m) (r % capacity) 0 ≡ get_or m (r % capacity) 0
      past r c d = written_at p bs m r (omega arith) size (omega arith) d ∙ cond-false (ltb r (p + length bs)) (get_or bs (r - p) 0) (get_or m (r % capacity) 0) (le-ltb r (p + length bs) c)

-- a text that does not pass the ring's end is written in one part
written_part : (p a : ℕ) (bs m : List ℕ) → (0 < length bs → p % capacity ≡ a) → a + length bs ≤ capacity → a + length bs ≤ length m → written p bs m ≡ take a m ++ (bs ++ drop (a + length bs) m)
unfolding written
written_part p a [] m at h g = rw (add-zero a) (sym (take-append-drop a m))
written_part p a (b ∷ bs) m at h g =
    let here : p % capacity ≡ a = at (omega arith) in
    let lt : a < length m = omega arith in
    let next : 0 < length bs → (p + 1) % capacity ≡ a + 1 = λ z. omega arith in
    let long : a + 1 + length bs ≤ length (set m a b) = rw length-set (omega arith) in
    let e : a + 1 + length bs ≡ a + length (b ∷ bs) = omega arith in
    let past : a < a + 1 + length bs = omega arith in
    let tail : drop (a + 1 + length bs) (set m a b) ≡ drop (a + length (b ∷ bs)) m = drop-set-lt (a + 1 + length bs) m a b past ∙ ap (λ (n : ℕ). drop n m) e in
    ap (λ (n : ℕ). written (p + 1) bs (set m n b)) here ∙ written_part (p + 1) (a + 1) bs (set m a b) next (omega arith) long ∙
    rw (take_more_set m a b lt, tail) (append_assoc (take a m) (b ∷ []) (bs ++ drop (a + length (b ∷ bs)) m))

-- how long a part is
pub part_size : (a k : ℕ) (m : List ℕ) → a + k ≤ capacity → length m ≡ capacity → length (take k (drop a m)) ≡ k
part_size a k m le size = simp (length-take, length-drop) (omega arith)

-- what a part that is written from its front on leaves
pub by_front : (p a k : ℕ) (text m part : List ℕ) → (0 < length text → p % capacity ≡ a) → part ≡ text ++ drop (length text) (take k (drop a m)) → length text ≤ k → a + k ≤ capacity → length m ≡ capacity → put_mid a k m part ≡ written p text m
by_front p a k text m part ea h le fits size =
    let long = part_size a k m fits size in
    let rest : drop (length text) (take k (drop a m)) ++ drop k (drop a m) ≡ drop (a + length text) m =
    sym (drop-append-le (length text) (take k (drop a m)) (drop k (drop a m)) (omega arith)) ∙ ap (drop (length text)) (take-append-drop k (drop a m)) ∙ drop-drop (length text) a m in
    ap (λ (ys : List ℕ). take a m ++ (ys ++ drop k (drop a m))) h ∙
    ap (λ (ys : List ℕ). take a m ++ ys) (append_assoc text (drop (length text) (take k (drop a m))) (drop k (drop a m)) ∙ ap (λ (ys : List ℕ). text ++ ys) rest) ∙
    sym (written_part p a text m ea (omega arith) (omega arith))

-- what a write to one part leaves
pub by_one : (p a k : ℕ) (text m part : List ℕ) → (0 < length text → p % capacity ≡ a) → part ≡ text → k ≡ length text → a + length text ≤ capacity → length m ≡ capacity → put_mid a k m part ≡ written p text m
by_one p a k text m part ea h e g n =
    let none : drop (length text) (take k (drop a m)) ≡ [] = drop_all (length text) (take k (drop a m)) (simp length-take (omega arith)) in
    by_front p a k text m part ea (h ∙ sym (ap (λ (ys : List ℕ). text ++ ys) none ∙ append-nil text)) (omega arith) (omega arith) n

-- what writes to two parts leave: the one up to the ring's end, the other from its start on
pub by_two : (p a k l : ℕ) (front back m one two : List ℕ) → a ≡ p % capacity → one ≡ front → k ≡ length front → a + length front ≤ capacity → (0 < length back → a + length front ≡ capacity) → two ≡ back → l ≡ length back → length back ≤ capacity → length m ≡ capacity →
    put_mid 0 l (put_mid a k m one) two ≡ written p (front ++ back) m
by_two p a k l front back m one two ea e1 ek fits ef e2 el hb size =
    let w : put_mid a k m one ≡ written p front m = by_one p a k front m one (λ _. sym ea) e1 ek fits size in
    let start : 0 < length back → (p + length front) % capacity ≡ 0 = λ l. let f = ef l in omega arith in
    ap (λ (xs : List ℕ). put_mid 0 l xs two) w ∙ by_one (p + length front) 0 l back (written p front m) two start e2 el (omega arith) (length-written p front m ∙ size) ∙ sym (written-append p front back m)

-- so many bytes in one part
held_part : (p a n : ℕ) (m : List ℕ) → (0 < n → p % capacity ≡ a) → a + n ≤ capacity → length m ≡ capacity → held p n m ≡ take n (drop a m)
unfolding held
held_part p a zero m at h size = refl
held_part p a (suc n) m at h size =
    let here : p % capacity ≡ a = at (omega arith) in
    let lt : a < length m = omega arith in
    let next : 0 < n → (p + 1) % capacity ≡ a + 1 = λ z. omega arith in
    ap (λ (k : ℕ). get_or m k 0 ∷ held (p + 1) n m) here ∙ ap (λ (xs : List ℕ). get_or m a 0 ∷ xs) (held_part (p + 1) (a + 1) n m next (omega arith) size) ∙ sym (ap (take (suc n)) (drop_more m a 0 lt))

pub held-append : (p j n : ℕ) (m : List ℕ) → held p (j + n) m ≡ held p j m ++ held (p + j) n m
unfolding held
held-append p zero n m = let e : p ≡ p + 0 = omega arith in rw (zero-add n) (ap (λ (q : ℕ). held q n m) e)
held-append p (suc j) n m = let e : p + 1 + j ≡ p + suc j = omega arith in rw (suc-add j n) (ap (λ (xs : List ℕ). get_or m (p % capacity) 0 ∷ xs) (held-append (p + 1) j n m ∙ ap (λ (q : ℕ). held (p + 1) j m ++ held q n m) e))

pub length-held : (p n : ℕ) (m : List ℕ) → length (held p n m) ≡ n
unfolding held
length-held p zero m = refl
length-held p (suc n) m = ap suc (length-held (p + 1) n m)

pub held_at : (p n : ℕ) (m : List ℕ) (i : ℕ) → i < n → get_or (held p n m) i 0 ≡ get_or m ((p + i) % capacity) 0
unfolding held
held_at p zero m i l = absurd (omega arith)
held_at p (suc n) m zero l = ap (λ (q : ℕ). get_or m (q % capacity) 0) (sym (add-zero p))
held_at p (suc n) m (suc i) l = let e : p + 1 + i ≡ p + suc i = omega arith in held_at (p + 1) n m i (omega arith) ∙ ap (λ (q : ℕ). get_or m (q % capacity) 0) e

pub held_one : (p a n : ℕ) (m : List ℕ) → a ≡ p % capacity → a + n ≤ capacity → length m ≡ capacity → take n (drop a m) ≡ held p n m
held_one p a n m ea le size = sym (held_part p a n m (λ _. sym ea) le size)

-- a list is filled with what the ring holds, n bytes more
pub held_more : (p a d n k : ℕ) (m before out part : List ℕ) → a ≡ (p + d) % capacity → a + n ≤ capacity → k ≡ n → d + n ≤ length before → length m ≡ capacity → out ≡ held p d m ++ drop d before → part ≡ take n (drop a m) →
    put_mid d k out part ≡ held p (d + n) m ++ drop (d + n) before
held_more p a d n k m before out part ea le ek fits size eo ep =
    let front : take d out ≡ held p d m = ap (take d) eo ∙ take_at (held p d m) (drop d before) d (length-held p d m) in
    let back : drop d out ≡ drop d before = ap (drop d) eo ∙ drop_at (held p d m) (drop d before) d (length-held p d m) in
    let rest : drop k (drop d out) ≡ drop (d + n) before = ap (λ (i : ℕ). drop i (drop d out)) ek ∙ ap (drop n) back ∙ drop-drop n d before in
    ap (λ (xs : List ℕ). xs ++ (part ++ drop k (drop d out))) front ∙ ap (λ (xs : List ℕ). held p d m ++ (part ++ xs)) rest ∙
    ap (λ (xs : List ℕ). held p d m ++ (xs ++ drop (d + n) before)) (ep ∙ held_one (p + d) a n m ea le size) ∙ sym (append_assoc (held p d m) (held (p + d) n m) (drop (d + n) before)) ∙
    sym (ap (λ (xs : List ℕ). xs ++ drop (d + n) before) (held-append p d n m))

pub held_all : (p d : ℕ) (m before out : List ℕ) → d ≡ length before → out ≡ held p d m ++ drop d before → out ≡ held p (length before) m
held_all p d m before out e eo = eo ∙ ap (λ (xs : List ℕ). held p d m ++ xs) (drop_all d before (omega arith)) ∙ append-nil (held p d m) ∙ ap (λ (n : ℕ). held p n m) e

-- the front of a list, filled
pub filled : (p n : ℕ) (m out part : List ℕ) → n ≤ length out → part ≡ held p (length (take n out)) m → part ≡ held p n m
filled p n m out part le e = e ∙ ap (λ (k : ℕ). held p k m) (length-take-le n out le)

pub two_parts : (xs front back : List ℕ) (n : ℕ) → front ≡ take n xs → back ≡ drop n xs → front ++ back ≡ xs
two_parts xs front back n e1 e2 = rw (e1, e2) (take-append-drop n xs)

-- what a source that fills one part leaves
pub by_part : (p a k r : ℕ) (rest m part : List ℕ) → (0 < r → p % capacity ≡ a) → part ≡ take r rest ++ drop r (take k (drop a m)) → r ≤ length rest → r ≤ k → a + k ≤ capacity → length m ≡ capacity → put_mid a k m part ≡ written p (take r rest) m
by_part p a k r rest m part ea h le hr fits size =
    let n : length (take r rest) ≡ r = length-take-le r rest le in
    by_front p a k (take r rest) m part (λ s. ea (omega arith)) (h ∙ ap (λ (i : ℕ). take r rest ++ drop i (take k (drop a m))) (sym n)) (omega arith) fits size

-- how long a part is that begins where the ring does, after that
pub next_size : (p a k r l : ℕ) (rest m part : List ℕ) → (0 < r → p % capacity ≡ a) → part ≡ take r rest ++ drop r (take k (drop a m)) → r ≤ length rest → r ≤ k → a + k ≤ capacity → length m ≡ capacity → l ≤ capacity → length (take l (put_mid a k m part)) ≡ l
next_size p a k r l rest m part ea h le hr fits size hl = length-take-le l (put_mid a k m part) (let e = ap length (by_part p a k r rest m part ea h le hr fits size) ∙ length-written p (take r rest) m ∙ size in omega arith)

-- what a source that fills two parts leaves: it fills the one, and r bytes of the other, which begins where the ring does
pub by_source : (p a k w l r : ℕ) (rest left m one two : List ℕ) → a ≡ p % capacity → a + k ≤ capacity → (0 < l → a + k ≡ capacity) → w ≡ k → l ≤ capacity → w ≤ length rest → r ≤ l → r ≤ length left → left ≡ drop w rest → length m ≡ capacity →
    one ≡ take w rest ++ drop w (take k (drop a m)) → two ≡ take r left ++ drop r (take l (put_mid a k m one)) → put_mid 0 l (put_mid a k m one) two ≡ written p (take (w + r) rest) m
by_source p a k w l r rest left m one two ea fits ek ew hl hw hr hr2 el size e1 e2 =
    let n : length (take w rest) ≡ w = length-take-le w rest hw in
    let first : put_mid a k m one ≡ written p (take w rest) m = by_part p a k w rest m one (λ _. sym ea) e1 hw (omega arith) fits size in
    let start : 0 < r → (p + length (take w rest)) % capacity ≡ 0 = λ s. let f = ek (omega arith) in omega arith in
    by_part (p + length (take w rest)) 0 l r left (put_mid a k m one) two start e2 hr2 hr (omega arith) (ap length first ∙ length-written p (take w rest) m ∙ size) ∙
    ap (written (p + length (take w rest)) (take r left)) first ∙ sym (written-append p (take w rest) (take r left) m) ∙
    ap (λ (xs : List ℕ). written p (take w rest ++ take r xs) m) el ∙ sym (ap (λ (xs : List ℕ). written p xs m) (take-add w r rest))
