-- Rows: one put in by its end.
use Rattle.std.specs.List.{position_or_len}
use Rattle.std.specs.Option.{unwrap_or}
use Rattle.std.proofs.Common.{◌≡◌, ℕ, zero, suc, ◌+◌, ◌≤◌, ltb, Bool, true, false, cond, not, Option, Some, None, List, [], ◌∷◌, ◌++◌, length, take, drop, set, sym, refl, ap, ◌∙◌, arith}
use Rattle.std.proofs.lemmas.List.Sums.{prefix_len-le-length}
use Rattle.std.proofs.lemmas.Bool.Decides.{nat_tests}
use Rattle.timer.specs.declared.flight.Row.{Row}
use Rattle.timer.specs.Flight.{insert, pushed}

abbrev pub ends_after : Row → Row → Bool
ends_after x y = ltb x.end y.end

-- a row is put in before the first that ends after it
insert_first : (x : Row) (ys : List Row) → insert x ys ≡ take (position_or_len (ends_after x) ys) ys ++ x ∷ drop (position_or_len (ends_after x) ys) ys
unfolding insert
insert_first x [] = refl
insert_first x (y ∷ ys) = go (ends_after x y) refl (insert_first x ys)
  where
    go : (b : Bool) → ends_after x y ≡ b → insert x ys ≡ take (position_or_len (ends_after x) ys) ys ++ x ∷ drop (position_or_len (ends_after x) ys) ys →
        insert x (y ∷ ys) ≡ take (position_or_len (ends_after x) (y ∷ ys)) (y ∷ ys) ++ x ∷ drop (position_or_len (ends_after x) (y ∷ ys)) (y ∷ ys)
    go true e r = rw e refl
    go false e r = let s : 1 + position_or_len (ends_after x) ys ≡ suc (position_or_len (ends_after x) ys) = omega arith in rw (e, s) (ap (λ zs. y ∷ zs) r)

-- the rows before a place move down by one, and a row takes the last of their places
moved_down : (x y : Row) (ys : List Row) (j : ℕ) → j ≤ length ys → set (take j ys ++ drop j (y ∷ ys)) j x ≡ take j ys ++ x ∷ drop j ys
moved_down x y ys zero l = refl
moved_down x y [] (suc j) l = absurd (omega arith)
moved_down x y (z ∷ ys) (suc j) l = ap (λ zs. z ∷ zs) (moved_down x z ys j (omega arith))

-- where the first that ends after it was looked for among sixteen
pub first_of_sixteen : (x : Row) (ys : List Row) (r : Option ℕ) → length ys ≡ 16 → r ≡ cond (ltb (position_or_len (ends_after x) ys) (length ys)) (Some (position_or_len (ends_after x) ys)) None → unwrap_or r 16 ≡ position_or_len (ends_after x) ys
first_of_sixteen x ys r l e = let m = prefix_len-le-length (λ z. not (ends_after x z)) ys in grind (arith, nat_tests)

pub pushed_lowest : (x : Row) (ys : List Row) → position_or_len (ends_after x) ys ≡ 0 → ys ≡ pushed x ys
pushed_lowest x ys e = let r : insert x ys ≡ x ∷ ys = rw e at (insert_first x ys) in sym (ap (drop 1) r)

pub pushed_above : (x : Row) (ys : List Row) (j : ℕ) → position_or_len (ends_after x) ys ≡ suc j → set (take j (drop 1 ys) ++ drop j ys) j x ≡ pushed x ys
pushed_above x [] j e = absurd (omega arith)
pushed_above x (y ∷ ys) j e = let m = prefix_len-le-length (λ z. not (ends_after x z)) (y ∷ ys) in
    let r = rw e at (insert_first x (y ∷ ys)) in moved_down x y ys j (omega arith) ∙ sym (ap (drop 1) r)
