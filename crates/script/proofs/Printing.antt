-- Numbers appended, one after the other.
use Rattle.std.proofs.Common.{◌≡◌, ℕ, ◌+◌, ◌<◌, ◌≤◌, List, [], ◌∷◌, ◌++◌, length, get_or, drop, decimal, sym, ap, ◌∙◌, append_assoc, append-nil}
use Rattle.std.proofs.lemmas.List.{at_drop_more, at_drop_all}
use Rattle.script.specs.Show.{counted}

module _ (ns : List ℕ) (i : ℕ) (all out : List ℕ) (e : out ++ counted (drop i ns) ≡ all) where
  pub counted_more : (one more : List ℕ) → i < length ns → one ≡ out ++ 32 ∷ [] → more ≡ one ++ decimal (get_or ns i 0) → more ++ counted (drop (i + 1) ns) ≡ all
  counted_more one more l o m =
      ap (λ z. z ++ counted (drop (i + 1) ns)) (m ∙ ap (λ z. z ++ decimal (get_or ns i 0)) o) ∙ append_assoc (out ++ 32 ∷ []) (decimal (get_or ns i 0)) (counted (drop (i + 1) ns))
      ∙ append_assoc out (32 ∷ []) (decimal (get_or ns i 0) ++ counted (drop (i + 1) ns)) ∙ ap (λ z. out ++ z) (sym (at_drop_more counted ns i 0 l)) ∙ e

  pub counted_all : length ns ≤ i → out ≡ all
  counted_all l = sym (append-nil out) ∙ ap (λ z. out ++ z) (sym (at_drop_all counted ns i l)) ∙ e
