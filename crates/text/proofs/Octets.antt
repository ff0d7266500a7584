-- What a loop over data has read or written so far.
use Rattle.std.proofs.Common.{◌≡◌, ℕ, zero, suc, ◌+◌, ◌-◌, ◌<◌, ◌≤◌, List, [], ◌∷◌, ◌++◌, length, get_or, take, drop, set, Ok, Err, sym, refl, ap, ◌∙◌, subst, arith}
use Rattle.std.proofs.lemmas.List.{append_assoc, append-nil, at_drop_more, at_drop_all, drop-drop, drop-set-lt, length-set, length-take-le, take-append-drop, take_more_set}
use Rattle.text.specs.Data.{run, onward, octet, written, encode}

encode-step : (b : ℕ) (bs : List ℕ) → encode (b ∷ bs) ≡ written b ++ encode bs
unfolding encode
encode-step b bs = refl

encode_none : encode [] ≡ []
unfolding encode
encode_none = refl

module _ (bs : List ℕ) (i : ℕ) (all out : List ℕ) (e : out ++ encode (drop i bs) ≡ all) where
  pub encode_more : (more : List ℕ) → i < length bs → more ≡ out ++ written (get_or bs i 0) → more ++ encode (drop (i + 1) bs) ≡ all
  encode_more more l o =
      let step : encode (drop i bs) ≡ written (get_or bs i 0) ++ encode (drop (i + 1) bs) = at_drop_more encode bs i 0 l ∙ encode-step (get_or bs i 0) (drop (i + 1) bs) in
      ap (λ z. z ++ encode (drop (i + 1) bs)) o ∙ append_assoc out (written (get_or bs i 0)) (encode (drop (i + 1) bs)) ∙ ap (λ z. out ++ z) (sym step) ∙ e

  pub encode_all : length bs ≤ i → out ≡ all
  encode_all l = sym (append-nil out) ∙ ap (λ z. out ++ z) (sym (at_drop_all encode bs i l ∙ encode_none)) ∙ e

-- n bytes of ds are written to out, and rest is left
pub record SoFar (before ds : List ℕ) (n : ℕ) (rest out : List ℕ) : Type 0 where
  pub within : n ≤ 1024
  pub size : length out ≡ 1024
  pub bytes : take n out ++ (run (1024 - n) rest).0 ≡ (run 1024 ds).0
  pub behind : (run (1024 - n) rest).1 ≡ (run 1024 ds).1
  pub beyond : drop n out ≡ drop n before

run_more : (n : ℕ) (rest : List ℕ) (b : ℕ) (behind : List ℕ) → Ok (b, behind) ≡ octet rest → run (suc n) rest ≡ (b ∷ (run n behind).0, (run n behind).1)
unfolding run
run_more n rest b behind e = ap (λ z. onward z (run n) rest) (sym e)

run_stop : (n : ℕ) (rest r : List ℕ) → Err r ≡ octet rest → run n rest ≡ ([], rest)
unfolding run
run_stop zero rest r e = refl
run_stop (suc n) rest r e = ap (λ z. onward z (run n) rest) (sym e)

run_none : (n : ℕ) (rest : List ℕ) → n ≡ 0 → run n rest ≡ ([], rest)
unfolding run
run_none n rest e = rw e

pub so_far_none : (before ds : List ℕ) → length before ≡ 1024 → SoFar before ds 0 ds before
so_far_none before ds l = record { within = omega arith; size = l; bytes = refl; behind = refl; beyond = refl }

pub so_far_more : (before ds : List ℕ) (n : ℕ) (rest out : List ℕ) (b : ℕ) (behind : List ℕ) → n < 1024 → SoFar before ds n rest out → Ok (b, behind) ≡ octet rest → SoFar before ds (n + 1) behind (set out n b)
so_far_more before ds n rest out b behind l s e =
    let m : ℕ = 1024 - (n + 1) in
    let k : 1024 - n ≡ suc m = omega arith in
    let v : n < length out = omega arith in
    let step : run (1024 - n) rest ≡ (b ∷ (run m behind).0, (run m behind).1) = ap (λ j. run j rest) k ∙ run_more m rest b behind e in
    record {
      within = omega arith;
      size = length-set out n b ∙ s.size;
      bytes = ap (λ z. z ++ (run m behind).0) (take_more_set out n b v) ∙ append_assoc (take n out) (b ∷ []) (run m behind).0 ∙ ap (λ z. take n out ++ z.0) (sym step) ∙ s.bytes;
      behind = ap (λ z. z.1) (sym step) ∙ s.behind;
      beyond = drop-set-lt (n + 1) out n b (omega arith) ∙ sym (drop-drop 1 n out) ∙ ap (λ z. drop 1 z) s.beyond ∙ drop-drop 1 n before;
    }

pub record Done (before ds : List ℕ) (n : ℕ) (left out : List ℕ) : Type 0 where
  pub count : n ≡ length (run 1024 ds).0
  pub rest : left ≡ (run 1024 ds).1
  pub bytes : out ≡ (run 1024 ds).0 ++ drop n before

done : (before ds : List ℕ) (n : ℕ) (rest out : List ℕ) → SoFar before ds n rest out → run (1024 - n) rest ≡ ([], rest) → Done before ds n rest out
done before ds n rest out s e =
    let all : take n out ≡ (run 1024 ds).0 = sym (append-nil (take n out)) ∙ ap (λ z. take n out ++ z.0) (sym e) ∙ s.bytes in
    let v : n ≤ length out = omega (arith, s.size, s.within) in
    record {
      count = sym (length-take-le n out v) ∙ ap length all;
      rest = ap (λ z. z.1) (sym e) ∙ s.behind;
      bytes = sym (take-append-drop n out) ∙ ap (λ z. z ++ drop n out) all ∙ ap (λ z. (run 1024 ds).0 ++ z) s.beyond;
    }

pub done_stop : (before ds : List ℕ) (n : ℕ) (rest out r : List ℕ) → SoFar before ds n rest out → Err r ≡ octet rest → Done before ds n rest out
done_stop before ds n rest out r s e = done before ds n rest out s (run_stop (1024 - n) rest r e)

pub done_full : (before ds : List ℕ) (n : ℕ) (rest out : List ℕ) → SoFar before ds n rest out → 1024 ≤ n → Done before ds 1024 rest out
done_full before ds n rest out s l =
    let e : n ≡ 1024 = omega (arith, s.within) in
    subst (λ k. Done before ds k rest out) e (done before ds n rest out s (run_none (1024 - n) rest (omega arith)))
