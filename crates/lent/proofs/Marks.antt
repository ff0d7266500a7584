-- Bits of places, put up or down and counted a word at a time.
use Rattle.std.proofs.Common.{◌≡◌, ℕ, ◌+◌, ◌-◌, ◌*◌, ◌/◌, ◌%◌, ◌<◌, ◌≤◌, min, Bool, false, cond, not, ◌&&◌, ltb, leb, ◌⊎◌, List, length, get_or, set, replicate, sym, refl, ap, ◌∙◌, inl, inr, ⊎_elim, arith}
use Rattle.std.proofs.lemmas.List.{get_or-replicate, get_or-set_same, get_or-set_other}
use Rattle.std.proofs.lemmas.Bool.Decides.{nat_tests}
use Rattle.std.proofs.lemmas.Bool.{lt-ltb, le-ltb, le-leb, lt-leb, and_from, and_left, and_right, cond-true, cond-false, cases_lt, cases_eq}
use Rattle.packet.specs.Sizes.{capacity}
use Rattle.lent.proofs.Words.{bit_none}
use Rattle.lent.specs.Bits.{bit, up, Marked, AllAre}

-- two places of one round that stand in one slot are the same
same_place : (p q place : ℕ) → p % capacity ≡ q % capacity → place ≤ p → p < place + capacity → place ≤ q → q < place + capacity → p ≡ q
same_place p q place e a b c d = omega arith

-- where the bit of a place stands
pub up_at : (ws : List ℕ) (p i j : ℕ) → p % capacity / 64 ≡ i → p % 64 ≡ j → up ws p ≡ bit (get_or ws i 0) j
unfolding up
up_at ws p i j ei ej = ap (λ k. bit (get_or ws k 0) (p % 64)) ei ∙ ap (bit (get_or ws i 0)) ej

pub up_none : (n : ℕ) (ws : List ℕ) → n ≡ 1024 → ws ≡ replicate n 0 → AllAre 0 capacity false ws
up_none n ws size e p lo hi =
    up_at ws p (p % capacity / 64) (p % 64) refl refl ∙ ap (λ xs. bit (get_or xs (p % capacity / 64) 0) (p % 64)) e ∙
    ap (λ w. bit w (p % 64)) (get_or-replicate n (p % capacity / 64) 0 0 (omega arith)) ∙ bit_none (p % 64)

pub marked_none : (place : ℕ) (v : Bool) (ws : List ℕ) → Marked place 0 v ws ws
marked_none place v ws p lo hi = sym (cond-false (ltb p (place + 0)) v (up ws p) (le-ltb p (place + 0) (omega arith)))

-- of a word that has the place next to those that are done, count bits more are put as v says
module _ (place n done at count w : ℕ) (v : Bool) (before ws : List ℕ) (ea : at ≡ (place + done) % capacity) (ec : count ≡ min (64 - at % 64) (n - done)) (few : n ≤ capacity) (less : done < n) (size : length ws ≡ 1024)
    (word : (j : ℕ) → j < 64 → bit w j ≡ cond (leb (at % 64) j && ltb j (at % 64 + count)) v (bit (get_or ws (at / 64) 0) j)) where
  among : (p : ℕ) → place + done ≤ p → p < place + done + count → up (set ws (at / 64) w) p ≡ v
  among p lo hi =
      let i : p % capacity / 64 ≡ at / 64 = omega arith in
      let j : p % 64 ≡ at % 64 + (p - (place + done)) = omega arith in
      up_at (set ws (at / 64) w) p (at / 64) (at % 64 + (p - (place + done))) i j ∙ ap (λ x. bit x (at % 64 + (p - (place + done)))) (get_or-set_same ws (at / 64) w 0 (omega arith)) ∙ word (at % 64 + (p - (place + done))) (omega arith) ∙
      cond-true (leb (at % 64) (at % 64 + (p - (place + done))) && ltb (at % 64 + (p - (place + done))) (at % 64 + count)) v _
      (and_from _ _ (le-leb (at % 64) (at % 64 + (p - (place + done))) (omega arith)) (lt-ltb (at % 64 + (p - (place + done))) (at % 64 + count) (omega arith)))

  -- no place of the round but those is among the word's bits that change
  meet : (p : ℕ) → place ≤ p → p < place + capacity → p % capacity / 64 ≡ at / 64 → at % 64 ≤ p % 64 → p % 64 < at % 64 + count → (place + done ≤ p) × (p < place + done + count)
  meet p lo hi e l h =
      let here : p % capacity ≡ at + (p % 64 - at % 64) = omega arith in
      let there : (place + done + (p % 64 - at % 64)) % capacity ≡ at + (p % 64 - at % 64) = omega arith in
      let one : p ≡ place + done + (p % 64 - at % 64) = same_place p (place + done + (p % 64 - at % 64)) place (here ∙ sym there) lo hi (omega arith) (omega arith) in
      (omega arith, omega arith)

  clear_of : (p : ℕ) → place ≤ p → p < place + capacity → p % capacity / 64 ≡ at / 64 → (p < place + done) ⊎ (place + done + count ≤ p) → (leb (at % 64) (p % 64) && ltb (p % 64) (at % 64 + count)) ≡ false
  clear_of p lo hi e o = ⊎_elim
      (λ (l : p % 64 < at % 64). and_left (leb (at % 64) (p % 64)) _ (lt-leb (at % 64) (p % 64) l))
      (λ (l : at % 64 ≤ p % 64). ⊎_elim
      (λ (h : p % 64 < at % 64 + count). let m = meet p lo hi e l h in absurd (⊎_elim (λ (x : p < place + done). omega arith) (λ (x : place + done + count ≤ p). omega arith) o))
      (λ (h : at % 64 + count ≤ p % 64). and_right (leb (at % 64) (p % 64)) (ltb (p % 64) (at % 64 + count)) (le-ltb (p % 64) (at % 64 + count) h))
      (cases_lt (p % 64) (at % 64 + count)))
      (cases_lt (p % 64) (at % 64))

  others : (p : ℕ) → place ≤ p → p < place + capacity → (p < place + done) ⊎ (place + done + count ≤ p) → up (set ws (at / 64) w) p ≡ up ws p
  others p lo hi o = ⊎_elim
      (λ (e : p % capacity / 64 ≡ at / 64). up_at (set ws (at / 64) w) p (at / 64) (p % 64) e refl ∙ ap (λ x. bit x (p % 64)) (get_or-set_same ws (at / 64) w 0 (omega arith)) ∙ word (p % 64) (omega arith) ∙
      cond-false (leb (at % 64) (p % 64) && ltb (p % 64) (at % 64 + count)) v (bit (get_or ws (at / 64) 0) (p % 64)) (clear_of p lo hi e o) ∙ sym (up_at ws p (at / 64) (p % 64) e refl))
      (λ (ne : p % capacity / 64 ≡ at / 64 → ⊥). up_at (set ws (at / 64) w) p (p % capacity / 64) (p % 64) refl refl ∙ ap (λ x. bit x (p % 64)) (get_or-set_other ws (at / 64) (p % capacity / 64) w 0 ne) ∙ sym (up_at ws p (p % capacity / 64) (p % 64) refl refl))
      (cases_eq (p % capacity / 64) (at / 64))

  pub marked_more : Marked place done v before ws → Marked place (done + count) v before (set ws (at / 64) w)
  marked_more m p lo hi = ⊎_elim
      (λ (l : p < place + done). others p lo hi (inl l) ∙ m p lo hi ∙ cond-true (ltb p (place + done)) v (up before p) (lt-ltb p (place + done) l) ∙
      sym (cond-true (ltb p (place + (done + count))) v (up before p) (lt-ltb p (place + (done + count)) (omega arith))))
      (λ (l : place + done ≤ p). ⊎_elim
      (λ (h : p < place + done + count). among p l h ∙ sym (cond-true (ltb p (place + (done + count))) v (up before p) (lt-ltb p (place + (done + count)) (omega arith))))
      (λ (h : place + done + count ≤ p). others p lo hi (inr h) ∙ m p lo hi ∙ cond-false (ltb p (place + done)) v (up before p) (le-ltb p (place + done) l) ∙
      sym (cond-false (ltb p (place + (done + count))) v (up before p) (le-ltb p (place + (done + count)) (omega arith))))
      (cases_lt p (place + done + count)))
      (cases_lt p (place + done))

-- the bits of one word more are put as v says, from `from` up to `to`, and those of n places are to be
module _ (place n word from to w : ℕ) (v : Bool) (before ws : List ℕ) (few : n ≤ capacity) (begun : place / 64 ≤ word) (less : 64 * word < place + n) (size : length ws ≡ 1024) (ef : from ≡ place - 64 * word) (et : to ≡ min (place + n - 64 * word) 64)
    (is : (j : ℕ) → j < 64 → bit w j ≡ cond (leb from j && ltb j to) v (bit (get_or ws (word % 1024) 0) j)) where
  -- of the places of the round whose bits stand in that word, none but those of the n places have bits among these
  keeps : (p : ℕ) → place ≤ p → p < place + capacity → p % capacity / 64 ≡ word % 1024 → (p / 64 ≡ word → place + n ≤ p) → (leb from (p % 64) && ltb (p % 64) to) ≡ false
  keeps p lo hi e o = ⊎_elim
      (λ (l : p % 64 < from). grind (arith, nat_tests))
      (λ (l : from ≤ p % 64). let past : to ≤ p % 64 = ⊎_elim (λ i. let q = o i in omega arith) (λ ne. omega arith) (cases_eq (p / 64) word) in grind (arith, nat_tests))
      (cases_lt (p % 64) (from))

  -- so they are marked already, or not to be
  same_edge : (p : ℕ) → place ≤ p → (p / 64 ≡ word → place + n ≤ p) → cond (ltb p (place + min n (64 * word - place))) v (up before p) ≡ cond (ltb p (place + min n (64 * (word + 1) - place))) v (up before p)
  same_edge p lo o = ⊎_elim
      (λ (l : p < place + min n (64 * word - place)). let more : p < place + min n (64 * (word + 1) - place) = omega arith in grind (arith, nat_tests))
      (λ (l : place + min n (64 * word - place) ≤ p). let more : place + min n (64 * (word + 1) - place) ≤ p = ⊎_elim (λ i. let q = o i in omega arith) (λ ne. omega arith) (cases_eq (p / 64) word) in grind (arith, nat_tests))
      (cases_lt p (place + min n (64 * word - place)))

  pub marked_more_word : Marked place (min n (64 * word - place)) v before ws → Marked place (min n (64 * (word + 1) - place)) v before (set ws (word % 1024) w)
  marked_more_word m p lo hi = ⊎_elim
      (λ (e : p % capacity / 64 ≡ word % 1024).
      up_at (set ws (word % 1024) w) p (word % 1024) (p % 64) e refl ∙ ap (λ x. bit x (p % 64)) (get_or-set_same ws (word % 1024) w 0 (omega arith)) ∙ is (p % 64) (omega arith) ∙ ⊎_elim (put e) (kept e) (cases_lt p (place + n)))
      (λ (ne : p % capacity / 64 ≡ word % 1024 → ⊥).
      up_at (set ws (word % 1024) w) p (p % capacity / 64) (p % 64) refl refl ∙ ap (λ x. bit x (p % 64)) (get_or-set_other ws (word % 1024) (p % capacity / 64) w 0 ne) ∙ sym (up_at ws p (p % capacity / 64) (p % 64) refl refl) ∙ m p lo hi ∙
      same_edge p lo (λ i. absurd (ne (omega arith))))
      (cases_eq (p % capacity / 64) (word % 1024))
    where
      Is : Type 0
      Is = cond (leb from (p % 64) && ltb (p % 64) to) v (bit (get_or ws (word % 1024) 0) (p % 64)) ≡ cond (ltb p (place + min n (64 * (word + 1) - place))) v (up before p)

      stays : p % capacity / 64 ≡ word % 1024 → (p / 64 ≡ word → place + n ≤ p) → Is
      stays e o = cond-false (leb from (p % 64) && ltb (p % 64) to) v (bit (get_or ws (word % 1024) 0) (p % 64)) (keeps p lo hi e o) ∙ sym (up_at ws p (word % 1024) (p % 64) e refl) ∙ m p lo hi ∙ same_edge p lo o

      kept : p % capacity / 64 ≡ word % 1024 → place + n ≤ p → Is
      kept e l = stays e (λ i. l)

      put : p % capacity / 64 ≡ word % 1024 → p < place + n → Is
      put e l = ⊎_elim
          (λ (i : p / 64 ≡ word).
          let from : from ≤ p % 64 = omega arith in
          let upto : p % 64 < to = omega arith in
          let more : p < place + min n (64 * (word + 1) - place) = omega arith in
          grind (arith, nat_tests))
          (λ (ne : p / 64 ≡ word → ⊥). stays e (λ i. absurd (ne i)))
          (cases_eq (p / 64) word)

-- a run goes on in the next word, where count bits more are so
module _ (place n at count : ℕ) (v : Bool) (ws : List ℕ) (ea : at ≡ (place + n) % capacity) (fits : at % 64 + count ≤ 64) where
  pub all_more : ((j : ℕ) → at % 64 ≤ j → j < at % 64 + count → bit (get_or ws (at / 64) 0) j ≡ v) → AllAre place n v ws → AllAre place (n + count) v ws
  all_more word a p lo hi = ⊎_elim
      (λ (l : p < place + n). a p lo l)
      (λ (l : place + n ≤ p).
      let i : p % capacity / 64 ≡ at / 64 = omega arith in
      let j : p % 64 ≡ at % 64 + (p - (place + n)) = omega arith in
      up_at ws p (at / 64) (at % 64 + (p - (place + n))) i j ∙ word (at % 64 + (p - (place + n))) (omega arith) (omega arith))
      (cases_lt p (place + n))

  pub all_gap : (r : ℕ) → count ≡ r → at % 64 + count < 64 → (at % 64 + r < 64 → bit (get_or ws (at / 64) 0) (at % 64 + r) ≡ not v) → up ws (place + (n + count)) ≡ not v
  all_gap r e l g =
      let i : (place + (n + count)) % capacity / 64 ≡ at / 64 = omega arith in
      let j : (place + (n + count)) % 64 ≡ at % 64 + r = omega arith in
      up_at ws (place + (n + count)) (at / 64) (at % 64 + r) i j ∙ g (omega arith)

-- a run goes on in the next word, up to a bit of it
module _ (place word stop : ℕ) (v : Bool) (ws : List ℕ) (begun : place / 64 ≤ word) (within : stop ≤ 64) where
  at_word : (p : ℕ) → p / 64 ≡ word → up ws p ≡ bit (get_or ws (word % 1024) 0) (p % 64)
  at_word p e = up_at ws p (word % 1024) (p % 64) (omega arith) refl

  pub all_more_word : ((j : ℕ) → place - 64 * word ≤ j → j < stop → bit (get_or ws (word % 1024) 0) j ≡ v) → AllAre place (64 * word - place) v ws → AllAre place (64 * word + stop - place) v ws
  all_more_word is a p lo hi = ⊎_elim
      (λ (l : p < 64 * word). a p lo (omega arith))
      (λ (l : 64 * word ≤ p). at_word p (omega arith) ∙ is (p % 64) (omega arith) (omega arith))
      (cases_lt p (64 * word))

  pub all_gap_word : stop < 64 → bit (get_or ws (word % 1024) 0) stop ≡ not v → up ws (64 * word + stop) ≡ not v
  all_gap_word l g = let e : (64 * word + stop) % 64 ≡ stop = omega arith in at_word (64 * word + stop) (omega arith) ∙ ap (bit (get_or ws (word % 1024) 0)) e ∙ g

pub up_round : (ws : List ℕ) (p : ℕ) → up ws (p + capacity) ≡ up ws p
up_round ws p = up_at ws (p + capacity) (p % capacity / 64) (p % 64) (omega arith) (omega arith) ∙ sym (up_at ws p (p % capacity / 64) (p % 64) refl refl)

-- of a round of places that has the n places, those are as v says, and the others stay
module _ (place n start : ℕ) (v : Bool) (before ws : List ℕ) (m : Marked place n v before ws) (lo : start ≤ place) (hi : place + n ≤ start + capacity) where
  pub marked_in : (p : ℕ) → place ≤ p → p < place + n → up ws p ≡ v
  marked_in p a b = m p a (omega arith) ∙ cond-true (ltb p (place + n)) v (up before p) (lt-ltb p (place + n) b)

  pub marked_out : (p : ℕ) → start ≤ p → p < start + capacity → (p < place) ⊎ (place + n ≤ p) → up ws p ≡ up before p
  marked_out p a b o = ⊎_elim
      (λ (l : p < place). sym (up_round ws p) ∙ past (p + capacity) (omega arith) (omega arith) ∙ up_round before p)
      (λ (l : place + n ≤ p). past p l (omega arith))
      o
    where
      past : (q : ℕ) → place + n ≤ q → q < place + capacity → up ws q ≡ up before q
      past q c d = m q (omega arith) d ∙ cond-false (ltb q (place + n)) v (up before q) (le-ltb q (place + n) c)
