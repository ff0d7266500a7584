-- Searches among lanes, turn by turn.
use Rattle.std.proofs.Common.{◌≡◌, ℕ, ◌+◌, ◌<◌, Bool, true, false, cond, eqb, List, [], ◌∷◌, length, map, reverse, ◌++◌, get_or, Some, None, Option, sym, subst, refl, ap, ◌∙◌, ⊎_elim, arith}
use Rattle.std.specs.List.{All, find}
use Rattle.std.proofs.lemmas.List.{map-id, reverse-append, reverse-reverse}
use Rattle.std.proofs.lemmas.List.Sorted.{All-permutation, IsPermutation-reverse}
use Rattle.std.proofs.lemmas.Bool.{eq-eqb, eqb-true, or_cases, or_left, or_right}
use Rattle.std.proofs.lemmas.Bool.Decides.{nat_tests}
use Rattle.lanes.specs.Used.{is_in, without}
use Rattle.table.specs.Housed.{seek}
use Rattle.table.specs.Search.{eldest, or_else}

-- the library's search is the one from the youngest, and that from the oldest where it goes the other way
pub find-seek : (test : ℕ → Bool) (ls : List ℕ) → find test (map (λ l. l) ls) ≡ seek test ls
find-seek test [] = refl
find-seek test (l ∷ ls) = let ih = find-seek test ls in cc

find-push : (test : ℕ → Bool) (ks : List ℕ) (l : ℕ) → find test (ks ++ l ∷ []) ≡ or_else (find test ks) (cond (test l) (Some l) None)
find-push test [] l = refl
find-push test (k ∷ ks) l = go (test k) (find-push test ks l)
  where
    go : (b : Bool) → find test (ks ++ l ∷ []) ≡ or_else (find test ks) (cond (test l) (Some l) None) →
        cond b (Some k) (find test (ks ++ l ∷ [])) ≡ or_else (cond b (Some k) (find test ks)) (cond (test l) (Some l) None)
    go true ih = refl
    go false ih = ih

find-reverse : (test : ℕ → Bool) (ls : List ℕ) → find test (reverse ls) ≡ eldest test ls
find-reverse test [] = refl
find-reverse test (l ∷ ls) = ap (find test) (reverse-append (l ∷ []) ls) ∙ find-push test (reverse ls) l ∙ ap (λ o. or_else o (cond (test l) (Some l) None)) (find-reverse test ls)

pub find-eldest : (test : ℕ → Bool) (xs ls : List ℕ) → reverse xs ≡ ls → find test (map (λ l. l) xs) ≡ eldest test ls
find-eldest test xs ls e = ap (find test) (map-id xs ∙ sym (reverse-reverse xs) ∙ ap reverse e) ∙ find-reverse test ls

-- each of some lanes is one, seen from the last too
pub low_at : (xs : List ℕ) → All (λ l. l < 16) xs → (l k : ℕ) → k < length (map (λ l. l) (reverse xs)) → l ≡ get_or (map (λ l. l) (reverse xs)) k l → l < 16
low_at xs h l k lt e =
    let q = map-id (reverse xs) in
    let r = All-permutation (λ j. j < 16) xs (reverse xs) (IsPermutation-reverse xs) h k l (subst (λ ys. k < length ys) q lt) in
    subst (λ j. j < 16) (sym (e ∙ ap (λ ys. get_or ys k l) q)) r

-- what the oldest search finds is there and passes; where it finds none, none passes
pub eldest-finds : (test : ℕ → Bool) (l : ℕ) (ls : List ℕ) → Some l ≡ eldest test ls → (is_in l ls ≡ true) × (test l ≡ true)
eldest-finds test l [] e = cc
eldest-finds test l (k ∷ ks) e = go (eldest test ks) (test k) refl refl (eldest-finds test l ks)
  where
    go : (o : Option ℕ) (b : Bool) → eldest test ks ≡ o → test k ≡ b → (Some l ≡ eldest test ks → (is_in l ks ≡ true) × (test l ≡ true)) → (is_in l (k ∷ ks) ≡ true) × (test l ≡ true)
    go (Some j) b q t ih = let r = ih cc in (or_right (eqb k l) (is_in l ks) r.0, r.1)
    go None true q t ih = let s : k ≡ l = cc in (or_left (eqb k l) (is_in l ks) (eq-eqb k l s), ap test (sym s) ∙ t)
    go None false q t ih = absurd cc

pub eldest_none : (test : ℕ → Bool) (ls : List ℕ) → None ≡ eldest test ls → (l : ℕ) → is_in l ls ≡ true → test l ≡ false
eldest_none test [] e l m = absurd cc
eldest_none test (k ∷ ks) e l m = go (eldest test ks) (test k) refl refl (λ n. eldest_none test ks n l)
  where
    go : (o : Option ℕ) (b : Bool) → eldest test ks ≡ o → test k ≡ b → (None ≡ eldest test ks → is_in l ks ≡ true → test l ≡ false) → test l ≡ false
    go (Some j) b q t ih = absurd cc
    go None true q t ih = absurd cc
    go None false q t ih = ⊎_elim {0, 0, 0} (λ h. ap test (sym (eqb-true k l h)) ∙ t) (λ h. ih (sym q) h) (or_cases (eqb k l) (is_in l ks) m)

pub length_without : (l : ℕ) (ls : List ℕ) → is_in l ls ≡ true → length (without l ls) + 1 ≡ length ls
length_without l [] m = absurd cc
length_without l (k ∷ ks) m = let r = length_without l ks in grind (arith, nat_tests)
