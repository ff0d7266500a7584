-- A text that is written gap by gap.
use Rattle.std.proofs.Common.{◌≡◌, ℕ, ◌+◌, ◌-◌, ◌%◌, ◌<◌, ◌≤◌, true, false, ltb, ◌⊎◌, List, length, get_or, take, drop, sym, refl, ap, ◌∙◌, inl, inr, ⊎_elim, arith}
use Rattle.std.proofs.lemmas.List.{length-take, length-drop, get_or-take, get_or-drop}
use Rattle.std.proofs.lemmas.Bool.{false≢true, lt-ltb, le-ltb, cond-true, cond-false, cases_lt}
use Rattle.packet.specs.Sizes.{capacity}
use Rattle.lent.specs.Ring.{written}
use Rattle.lent.specs.Bits.{up, Marked, AllAre}
use Rattle.lent.specs.Gaps.{Filled}
use Rattle.lent.proofs.Writes.{length-written, written_in, written_out}
use Rattle.lent.proofs.Marks.{marked_none, marked_in, marked_out}

pub filled_none : (place : ℕ) (text ring bits : List ℕ) → Filled place 0 text ring bits ring bits
filled_none place text ring bits = record {
  size = refl;
  marked = marked_none place true bits;
  new = (λ p lo hi e. absurd (omega arith));
  same = (λ p lo hi e. refl);
  rest = (λ p lo hi. refl);
}

pub part_long : (n k m : ℕ) (text : List ℕ) → m ≡ k → n + k ≤ length text → length (take m (drop n text)) ≡ k
part_long n k m text e le = simp (length-take, length-drop) (omega arith)

pub part_at : (n k m : ℕ) (text : List ℕ) → m ≡ k → (i : ℕ) → i < k → get_or (take m (drop n text)) i 0 ≡ get_or text (n + i) 0
part_at n k m text e i l = get_or-take m (drop n text) i 0 (omega arith) ∙ get_or-drop n text i 0

-- k places more are marked, whose bits were down: their bytes are written
module _ (place n k : ℕ) (text part ring bits ring1 bits1 ring2 bits2 : List ℕ) (fits : n + k ≤ capacity) (size : length ring1 ≡ capacity) (long : length part ≡ k) (part_at : (i : ℕ) → i < k → get_or part i 0 ≡ get_or text (n + i) 0)
    (down : AllAre (place + n) k false bits1) (wrote : ring2 ≡ written (place + n) part ring1) (marks : Marked (place + n) k true bits1 bits2) (f : Filled place n text ring bits ring1 bits1) where
  stays : (p : ℕ) → place ≤ p → p < place + capacity → (p < place + n) ⊎ (place + n + k ≤ p) → get_or ring2 (p % capacity) 0 ≡ get_or ring1 (p % capacity) 0
  stays p lo hi o = ap (λ r. get_or r (p % capacity) 0) wrote ∙ written_out (place + n) part ring1 place size (omega arith) (omega arith) p lo hi (⊎_elim (λ (l : p < place + n). inl l) (λ (l : place + n + k ≤ p). inr (omega arith)) o)

  stays_up : (p : ℕ) → place ≤ p → p < place + capacity → (p < place + n) ⊎ (place + n + k ≤ p) → up bits2 p ≡ up bits1 p
  stays_up p lo hi o = marked_out (place + n) k place true bits1 bits2 marks (omega arith) (omega arith) p lo hi o

  -- beyond the first n, the bits are as they were at first
  first-up : (p : ℕ) → place + n ≤ p → p < place + capacity → up bits1 p ≡ up bits p
  first-up p lo hi = marked_out place n place true bits bits1 f.marked (omega arith) (omega arith) p (omega arith) hi (inr lo)

  pub filled_gap : Filled place (n + k) text ring bits ring2 bits2
  filled_gap = record {
    size = ap length wrote ∙ length-written (place + n) part ring1 ∙ f.size;
    marked = (λ p lo hi. ⊎_elim
        (λ (l : p < place + (n + k)). in_marks p lo l ∙ sym (cond-true (ltb p (place + (n + k))) true (up bits p) (lt-ltb p (place + (n + k)) l)))
        (λ (l : place + (n + k) ≤ p). stays_up p lo hi (inr (omega arith)) ∙ first-up p (omega arith) hi ∙ sym (cond-false (ltb p (place + (n + k))) true (up bits p) (le-ltb p (place + (n + k)) l)))
        (cases_lt p (place + (n + k))));
    new = (λ p lo hi e. ⊎_elim
        (λ (l : p < place + n). stays p lo (omega arith) (inl l) ∙ f.new p lo l e)
        (λ (l : place + n ≤ p). let at : n + (p - (place + n)) ≡ p - place = omega arith in ap (λ r. get_or r (p % capacity) 0) wrote ∙ written_in (place + n) part ring1 place size (omega arith) (omega arith) p l (omega arith) ∙ part_at (p - (place + n)) (omega arith) ∙ ap (λ i. get_or text i 0) at)
        (cases_lt p (place + n)));
    same = (λ p lo hi e. ⊎_elim
        (λ (l : p < place + n). stays p lo (omega arith) (inl l) ∙ f.same p lo l e)
        (λ (l : place + n ≤ p). absurd (false≢true (sym (down p l (omega arith)) ∙ first-up p l (omega arith) ∙ e)))
        (cases_lt p (place + n)));
    rest = (λ p lo hi. stays p (omega arith) hi (inr (omega arith)) ∙ f.rest p (omega arith) hi);
  }
    where
      in_marks : (p : ℕ) → place ≤ p → p < place + (n + k) → up bits2 p ≡ true
      in_marks p lo hi = ⊎_elim
          (λ (l : p < place + n). stays_up p lo (omega arith) (inl l) ∙ marked_in place n place true bits bits1 f.marked (omega arith) (omega arith) p lo l)
          (λ (l : place + n ≤ p). marked_in (place + n) k place true bits1 bits2 marks (omega arith) (omega arith) p l (omega arith))
          (cases_lt p (place + n))

-- k places more are passed over, whose bits are up already
pub filled_skip : (place n k : ℕ) (text ring bits ring1 bits1 : List ℕ) → n + k ≤ capacity → AllAre (place + n) k true bits1 → Filled place n text ring bits ring1 bits1 → Filled place (n + k) text ring bits ring1 bits1
filled_skip place n k text ring bits ring1 bits1 fits all f = record {
  size = f.size;
  marked = (λ p lo hi. ⊎_elim
      (λ (l : p < place + (n + k)). in_marks p lo l ∙ sym (cond-true (ltb p (place + (n + k))) true (up bits p) (lt-ltb p (place + (n + k)) l)))
      (λ (l : place + (n + k) ≤ p). first-up p (omega arith) hi ∙ sym (cond-false (ltb p (place + (n + k))) true (up bits p) (le-ltb p (place + (n + k)) l)))
      (cases_lt p (place + (n + k))));
  new = (λ p lo hi e. ⊎_elim
      (λ (l : p < place + n). f.new p lo l e)
      (λ (l : place + n ≤ p). absurd (false≢true (sym e ∙ sym (first-up p l (omega arith)) ∙ all p l (omega arith))))
      (cases_lt p (place + n)));
  same = (λ p lo hi e. ⊎_elim (λ (l : p < place + n). f.same p lo l e) (λ (l : place + n ≤ p). f.rest p l (omega arith)) (cases_lt p (place + n)));
  rest = (λ p lo hi. f.rest p (omega arith) hi);
}
  where
    first-up : (p : ℕ) → place + n ≤ p → p < place + capacity → up bits1 p ≡ up bits p
    first-up p lo hi = marked_out place n place true bits bits1 f.marked (omega arith) (omega arith) p (omega arith) hi (inr lo)

    in_marks : (p : ℕ) → place ≤ p → p < place + (n + k) → up bits1 p ≡ true
    in_marks p lo hi = ⊎_elim (λ (l : p < place + n). marked_in place n place true bits bits1 f.marked (omega arith) (omega arith) p lo l) (λ (l : place + n ≤ p). all p l (omega arith)) (cases_lt p (place + n))
