-- How many rows lie above a place; rows in the order of their ends; the clean ones.
use Rattle.std.proofs.Common.{◌≡◌, ℕ, ◌+◌, ◌-◌, ◌<◌, ◌≤◌, min, Bool, true, false, not, ltb, List, filter, [], ◌∷◌, ◌++◌, map, length, drop, Option, refl, ap, ◌∙◌, append-nil, arith}
use Rattle.std.proofs.lemmas.List.{length-append}
use Rattle.std.proofs.lemmas.List.Elements.{filter-append}
use Rattle.std.proofs.lemmas.List.Filters.{length-filter_both}
use Rattle.std.proofs.lemmas.Bool.{cond_both, ltb-true, ltb-false}
use Rattle.std.proofs.lemmas.Bool.Decides.{nat_tests}
use Rattle.timer.specs.declared.measures.Measures.{Measures}
use Rattle.timer.specs.declared.flight.Row.{Row}
use Rattle.timer.specs.Flight.{unclean, resent, settled, insert, full, shares, measured_by, measured_one}
use Rattle.timer.specs.Enough.{beyond}

abbrev pub above : ℕ → List Row → ℕ
above u rs = length (beyond u rs)

abbrev pub Rising : ℕ → List Row → Type 0
Rising low [] = Unit
Rising low (r ∷ rs) = (low ≤ r.end) × Rising r.end rs

abbrev pub cleans : List Row → List Row
cleans rs = filter (λ r. r.clean) rs

-- those that share no byte with a text
abbrev pub apart : ℕ → ℕ → List Row → List Row
apart p e rs = filter (λ r. not (shares p e r)) rs

pub above-resent : (u p e : ℕ) (xs : List Row) → above u (map (resent p e) xs) ≡ above u xs
above-resent u p e [] = refl
above-resent u p e (x ∷ xs) = let r = above-resent u p e xs in grind (arith, nat_tests)

pub above-settled : (u v : ℕ) (xs : List Row) → above u (map (settled v) xs) ≡ above u xs
above-settled u v [] = refl
above-settled u v (x ∷ xs) = let r = above-settled u v xs in grind (arith, nat_tests)

pub above_push : (u : ℕ) (x : Row) (xs : List Row) → above u (xs ++ x ∷ []) ≡ above u (x ∷ xs)
above_push u x xs = let a = filter-append (λ r. ltb u r.end) xs (x ∷ []) in let l = length-append (beyond u xs) (beyond u (x ∷ [])) in grind (arith, nat_tests)

pub above-insert : (u : ℕ) (x : Row) (xs : List Row) → above u (insert x xs) ≡ above u (x ∷ xs)
unfolding insert
above-insert u x [] = refl
above-insert u x (y ∷ xs) = let r = above-insert u x xs in grind (arith, nat_tests)

pub above-beyond : (u v : ℕ) (xs : List Row) → v ≤ u → above u (beyond v xs) ≡ above u xs
above-beyond u v [] l = refl
above-beyond u v (x ∷ xs) l = let r = above-beyond u v xs l in grind (arith, nat_tests)

pub beyond_all : (v : ℕ) (xs : List Row) → above v (beyond v xs) ≡ length (beyond v xs)
beyond_all v [] = refl
beyond_all v (x ∷ xs) = let r = beyond_all v xs in grind (arith, nat_tests)

pub above_few : (u : ℕ) (xs : List Row) → above u xs ≤ length xs
above_few u xs = omega (arith, length-filter_both (λ r. ltb u r.end) (λ r. not (ltb u r.end)) (λ _. refl) xs)

pub above_falls : (u v : ℕ) (xs : List Row) → u ≤ v → above v xs ≤ above u xs
above_falls u v [] l = omega arith
above_falls u v (x ∷ xs) l = let r = above_falls u v xs l in grind (arith, nat_tests)

rising-above : (u low : ℕ) (xs : List Row) → Rising low xs → u < low → above u xs ≡ length xs
rising-above u low [] s l = refl
rising-above u low (x ∷ xs) (h, s) l = let r = rising-above u x.end xs s (omega arith) in grind (arith, nat_tests)

-- the lowest left out
pub above-drop : (u low : ℕ) (xs : List Row) → Rising low xs → above u (drop 1 xs) ≡ min (length xs - 1) (above u xs)
above-drop u low [] s = refl
above-drop u low (x ∷ xs) (h, s) = let f = above_few u xs in let r = rising-above u x.end xs s in grind (arith, nat_tests)

-- the lowest is above a place exactly if all are
pub full_all : (u low : ℕ) (xs : List Row) → Rising low xs → length xs ≡ 16 → full u xs ≡ not (ltb (above u xs) 16)
full_all u low [] s l = absurd (omega arith)
full_all u low (x ∷ xs) (h, s) l = let f = above_few u xs in let r = rising-above u x.end xs s in grind (arith, nat_tests)

pub rising-resent : (p e low : ℕ) (xs : List Row) → Rising low xs → Rising low (map (resent p e) xs)
rising-resent p e low [] s = s
rising-resent p e low (x ∷ xs) (h, s) = let r = rising-resent p e x.end xs s in
    cond_both (shares p e x) (unclean x) x (λ z. (low ≤ z.end) × Rising z.end (map (resent p e) xs)) (λ _. (h, r)) (λ _. (h, r))

pub rising-settled : (v low : ℕ) (xs : List Row) → Rising low xs → Rising low (map (settled v) xs)
rising-settled v low [] s = s
rising-settled v low (x ∷ xs) (h, s) = let r = rising-settled v x.end xs s in
    cond_both (ltb v x.end) x (unclean x) (λ z. (low ≤ z.end) × Rising z.end (map (settled v) xs)) (λ _. (h, r)) (λ _. (h, r))

pub rising-insert : (low : ℕ) (x : Row) (xs : List Row) → Rising low xs → low ≤ x.end → Rising low (insert x xs)
unfolding insert
rising-insert low x [] s l = (l, tt)
rising-insert low x (y ∷ xs) (h, s) l =
    cond_both (ltb x.end y.end) (x ∷ y ∷ xs) (y ∷ insert x xs) (Rising low) (λ t. (l, (omega (arith, ltb-true x.end y.end t), s))) (λ f. (h, rising-insert y.end x xs s (ltb-false x.end y.end f)))

pub rising-lower : (low high : ℕ) (xs : List Row) → Rising high xs → low ≤ high → Rising low xs
rising-lower low high [] s l = s
rising-lower low high (x ∷ xs) (h, s) l = (omega arith, s)

pub rising-drop : (low : ℕ) (xs : List Row) → Rising low xs → Rising low (drop 1 xs)
rising-drop low [] s = s
rising-drop low (x ∷ xs) (h, s) = rising-lower low x.end xs s h

pub length-insert : (x : Row) (xs : List Row) → length (insert x xs) ≡ length xs + 1
unfolding insert
length-insert x [] = refl
length-insert x (y ∷ xs) = let r = length-insert x xs in grind (arith, nat_tests)

pub insert_last : (h : ℕ) (x : Row) (xs : List Row) → above h xs ≡ 0 → h ≤ x.end → insert x xs ≡ xs ++ x ∷ []
unfolding insert
insert_last h x [] a l = refl
insert_last h x (y ∷ xs) a l = let r = insert_last h x xs in grind (arith, nat_tests)

pub cleans-resent : (p e : ℕ) (xs : List Row) → cleans (map (resent p e) xs) ≡ apart p e (cleans xs)
cleans-resent p e [] = refl
cleans-resent p e (x ∷ xs) = let r = cleans-resent p e xs in grind (arith, nat_tests)

pub cleans-settled : (v : ℕ) (xs : List Row) → cleans (map (settled v) xs) ≡ beyond v (cleans xs)
cleans-settled v [] = refl
cleans-settled v (x ∷ xs) = let r = cleans-settled v xs in grind (arith, nat_tests)

pub cleans-beyond : (v : ℕ) (xs : List Row) → cleans (beyond v xs) ≡ beyond v (cleans xs)
cleans-beyond v [] = refl
cleans-beyond v (x ∷ xs) = let r = cleans-beyond v xs in grind (arith, nat_tests)

pub cleans-insert : (x : Row) (xs : List Row) → x.clean ≡ false → cleans (insert x xs) ≡ cleans xs
unfolding insert
cleans-insert x [] c = grind (arith, nat_tests)
cleans-insert x (y ∷ xs) c = let r = cleans-insert x xs c in grind (arith, nat_tests)

-- a clean row more stands at the end
pub cleans_more : (h : ℕ) (x : Row) (xs : List Row) → above h xs ≡ 0 → (x.clean ≡ true → h ≤ x.end) → cleans (insert x xs) ≡ cleans xs ++ cleans (x ∷ [])
cleans_more h x xs a f = go x.clean refl
  where
    go : (b : Bool) → x.clean ≡ b → cleans (insert x xs) ≡ cleans xs ++ cleans (x ∷ [])
    go true e = ap cleans (insert_last h x xs a (f e)) ∙ filter-append (λ r. r.clean) xs (x ∷ [])
    go false e = let r = cleans-insert x xs e in let n = append-nil (cleans xs) in let z : cleans (x ∷ []) ≡ [] = grind (arith, nat_tests) in cc

-- only clean rows are measured
pub measured-cleans : (upto now : ℕ) (m : Option Measures) (xs : List Row) → measured_by upto now m xs ≡ measured_by upto now m (cleans xs)
measured-cleans upto now m [] = refl
measured-cleans upto now m (x ∷ xs) =
    cond_both x.clean (x ∷ cleans xs) (cleans xs) (λ z. measured_by upto now (measured_one upto now m x) xs ≡ measured_by upto now m z)
    (λ t. measured-cleans upto now (measured_one upto now m x) xs)
    (λ f. let e : measured_one upto now m x ≡ m = grind (arith, nat_tests) in ap (λ z. measured_by upto now z xs) e ∙ measured-cleans upto now m xs)
