-- One turn of a choice among words.
use Rattle.std.proofs.Common.{◌≡◌, ℕ, ◌+◌, ◌<◌, ◌≤◌, List, ◌∷◌, length, get_or, drop, Ok, Err, sym, ap, ◌∙◌}
use Rattle.std.proofs.lemmas.List.{drop_more, drop_all}
use Rattle.text.specs.Fronts.{Read, strip}
use Rattle.text.specs.Words.{shorter, tried, choose_from}

module _ {K : Type 0} (spelt : K → List ℕ) (ws : List K) (i : ℕ) (line far : List ℕ) (all : Read K) (inv : choose_from spelt (drop i ws) line far ≡ all) where
  turn : (w : K) → i < length ws → w ≡ get_or ws i w → tried w (strip (spelt w) line) far (choose_from spelt (drop (i + 1) ws) line) ≡ all
  unfolding choose_from
  turn w l e = ap (λ z. choose_from spelt z line far) (ap (λ z. z ∷ drop (i + 1) ws) e ∙ sym (drop_more ws i w l)) ∙ inv

  pub choose-found : (w : K) (rest : List ℕ) → i < length ws → w ≡ get_or ws i w → Ok rest ≡ strip (spelt w) line → Ok (w, rest) ≡ all
  choose-found w rest l e s = ap (λ z. tried w z far (choose_from spelt (drop (i + 1) ws) line)) s ∙ turn w l e

  pub choose_more : (w : K) (at more : List ℕ) → i < length ws → w ≡ get_or ws i w → Err at ≡ strip (spelt w) line → more ≡ shorter at far → choose_from spelt (drop (i + 1) ws) line more ≡ all
  choose_more w at more l e s m = ap (choose_from spelt (drop (i + 1) ws) line) m ∙ ap (λ z. tried w z far (choose_from spelt (drop (i + 1) ws) line)) s ∙ turn w l e

  pub choose_none : length ws ≤ i → Err far ≡ all
  unfolding choose_from
  choose_none l = ap (λ z. choose_from spelt z line far) (sym (drop_all i ws l)) ∙ inv
