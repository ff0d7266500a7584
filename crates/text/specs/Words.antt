-- One of several words.
use Rattle.std.specs.Prelude.{ℕ, cond, List, [], ◌∷◌, length, Ok, Err, Result, nat_lt}
use Rattle.text.specs.Fronts.{Read, strip}

abbrev pub shorter : List ℕ → List ℕ → List ℕ
shorter xs ys = cond (nat_lt (length xs) (length ys)) xs ys

-- a word that was tried, or else what the others give
abbrev pub tried : {K : Type 0} → K → Result (List ℕ) (List ℕ) → List ℕ → (List ℕ → Read K) → Read K
tried w (Ok rest) far others = Ok (w, rest)
tried w (Err at) far others = others (shorter at far)

-- far is what the word that went furthest left
unfoldable pub choose_from : {K : Type 0} → (K → List ℕ) → List K → List ℕ → List ℕ → Read K
choose_from spelt [] line far = Err far
choose_from spelt (w ∷ ws) line far = tried w (strip (spelt w) line) far (choose_from spelt ws line)

abbrev pub choose : {K : Type 0} → (K → List ℕ) → List K → List ℕ → Read K
choose spelt ws line = choose_from spelt ws line line
