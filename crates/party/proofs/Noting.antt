-- Records that are looked at one after the other.
use Rattle.std.proofs.Common.{◌≡◌, ℕ, ◌+◌, ◌<◌, ◌≤◌, List, ◌++◌, map, length, get_or, take, drop, set, ap, ◌∙◌, arith, append-nil}
use Rattle.std.proofs.lemmas.List.Edits.{map_over_more}
use Rattle.std.proofs.lemmas.List.{take_all, drop_all, get_or_default}

-- a loop that writes over each element, which is read at any default
pub map_over_at : {X : Type 0} (f : X → X) (xs ys : List X) (i : ℕ) (d y : X) → i < length xs → length ys ≡ length xs → ys ≡ map f (take i xs) ++ drop i xs → y ≡ f (get_or ys i d) → set ys i y ≡ map f (take (i + 1) xs) ++ drop (i + 1) xs
map_over_at f xs ys i d y l n e r = ap (set ys i) r ∙ map_over_more f xs ys i (get_or ys i d) l e (get_or_default ys i d (get_or ys i d) (omega (arith, l, n)))

pub map_over_all : {X : Type 0} (f : X → X) (xs : List X) (i : ℕ) → length xs ≤ i → map f (take i xs) ++ drop i xs ≡ map f xs
map_over_all f xs i l = ap (λ z. map f (take i xs) ++ z) (drop_all i xs l) ∙ append-nil (map f (take i xs)) ∙ ap (map f) (take_all i xs l)
