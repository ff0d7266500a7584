-- What is written is read back.
use Rattle.std.proofs.Common.{◌≡◌, ℕ, zero, suc, ◌+◌, ◌-◌, ◌*◌, ◌/◌, ◌%◌, ◌^◌, ◌<◌, ◌≤◌, true, false, ◌&&◌, eqb, ltb, leb, List, [], ◌∷◌, ◌++◌, length, get_or, drop, Ok, decimal, sym, refl, ap, ◌∙◌, ⊎_elim, arith}
use Rattle.std.proofs.lemmas.Fmt.{decimal_by_steps, decimal_digit}
use Rattle.std.proofs.lemmas.List.{append_assoc, get_or_append_left, length-append}
use Rattle.std.proofs.lemmas.Bool.{cases_Bool, cases_eq, cond-true, cond-false, le-leb, ne_eqb}
use Rattle.std.proofs.lemmas.Bool.Decides.{nat_tests}
use Rattle.text.specs.Fronts.{is_digit, digits, number}
use Rattle.text.specs.Data.{is_plain, hex_of, written, encode, nibble, octet, onward, run}
use Rattle.text.specs.Back.{Bytes, Stops, NumbersBack, DataBack, Decoded}

digit_more : (limit n d : ℕ) (rest : List ℕ) → d < 10 → 10 * n + d ≤ limit → digits limit n ((48 + d) ∷ rest) ≡ digits limit (10 * n + d) rest
unfolding digits
digit_more limit n d rest l m =
    let e : 48 + d - 48 ≡ d = omega arith in
    let t : is_digit (48 + d) ≡ true = grind (arith, nat_tests) in
    let u : leb (10 * n + (48 + d - 48)) limit ≡ true = le-leb _ _ (omega arith) in
    rw (t, u, e)

digits_stop : (limit n : ℕ) (rest : List ℕ) → Stops rest → digits limit n rest ≡ Ok (n, rest)
unfolding digits
digits_stop limit n [] s = refl
digits_stop limit n (b ∷ rest) s = rw s

-- ds are the digits of n, of which the first is a zero only where it stands alone
record Spelt (n : ℕ) (ds : List ℕ) : Type 0 where
  reads : (limit : ℕ) (rest : List ℕ) → n ≤ limit → digits limit 0 (ds ++ rest) ≡ digits limit n rest
  first : 0 < n → (48 < get_or ds 0 0) × (get_or ds 0 0 < 58) × (0 < length ds)

spelt_one : (n : ℕ) → n < 10 → Spelt n ((48 + n) ∷ [])
spelt_one n l = record { reads = λ limit rest h. digit_more limit 0 n rest l (omega arith) ∙ ap (λ j. digits limit j rest) (omega arith); first = λ h. (omega arith, omega arith, omega arith) }

spelt_more : (n : ℕ) (ds : List ℕ) → 10 ≤ n → Spelt (n / 10) ds → Spelt n (ds ++ ((48 + n % 10) ∷ []))
spelt_more n ds l s = record {
  reads = λ limit rest h.
      ap (digits limit 0) (append_assoc ds ((48 + n % 10) ∷ []) rest) ∙ s.reads limit ((48 + n % 10) ∷ rest) (omega arith)
      ∙ digit_more limit (n / 10) (n % 10) rest (omega arith) (omega arith) ∙ ap (λ j. digits limit j rest) (omega arith);
  first = λ h.
      let f = s.first (omega arith) in
      let v : 0 < length ds = f.2 in
      let e : get_or (ds ++ ((48 + n % 10) ∷ [])) 0 0 ≡ get_or ds 0 0 = get_or_append_left ds ((48 + n % 10) ∷ []) 0 0 v in
      (omega (arith, f.0), omega (arith, f.1), omega (arith, length-append ds ((48 + n % 10) ∷ [])));
}

spelt : (n : ℕ) → n < 2 ^ 64 → Spelt n (decimal n)
spelt = decimal_by_steps Spelt spelt_one spelt_more

number_back : (n limit : ℕ) (ds rest : List ℕ) → Spelt n ds → 0 < n → n ≤ limit → Stops rest → number limit (ds ++ rest) ≡ Ok (n, rest)
number_back n limit [] rest s h l t = absurd (omega (arith, (s.first h).2))
number_back n limit (d ∷ ds) rest s h l t =
    let f = s.first h in
    let u : is_digit d ≡ true = grind (arith, nat_tests, f.0, f.1) in
    let v : eqb d 48 ≡ false = ne_eqb d 48 (omega (arith, f.0)) in
    rw (u, v) (s.reads limit rest l ∙ digits_stop limit n rest t)

pub numbers_back : NumbersBack
numbers_back n limit rest l h t =
    ⊎_elim
    (λ e. ap (λ j. number limit (decimal j ++ rest)) e ∙ ap (λ ds. number limit (ds ++ rest)) (decimal_digit 0 (omega arith)) ∙ ap (λ j. Ok (j, rest)) (sym e))
    (λ e. number_back n limit (decimal n) rest (spelt n (omega arith)) (omega arith) l t)
    (cases_eq n 0)

nibble_back : (d : ℕ) (rest : List ℕ) → d < 16 → nibble (hex_of d ∷ rest) ≡ Ok (d, rest)
nibble_back d rest l = grind (arith, nat_tests)

octet_back : (b : ℕ) (rest : List ℕ) → b < 256 → octet (written b ++ rest) ≡ Ok (b, rest)
octet_back b rest l = ⊎_elim plain escaped (cases_Bool (is_plain b))
  where
    plain : is_plain b ≡ true → octet (written b ++ rest) ≡ Ok (b, rest)
    plain p =
        let e : eqb b 37 ≡ false = grind (arith, nat_tests) in
        ap (λ z. octet (z ++ rest)) (cond-true _ _ _ p) ∙ rw (p, e)

    escaped : is_plain b ≡ false → octet (written b ++ rest) ≡ Ok (b, rest)
    escaped p =
        let h : (ltb 2 (b / 16) && ltb (b / 16) 7) ≡ false = grind (arith, nat_tests) in
        let q : 16 * (b / 16) + b % 16 ≡ b = omega arith in
        ap (λ z. octet (z ++ rest)) (cond-false _ _ _ p)
        ∙ rw (nibble_back (b / 16) (hex_of (b % 16) ∷ rest) (omega arith), h, nibble_back (b % 16) rest (omega arith), q, p)

pub run_nil : (n : ℕ) → run n [] ≡ ([], [])
unfolding run
run_nil zero = refl
run_nil (suc n) = refl

pub run_back : (n : ℕ) (bs : List ℕ) → Bytes bs → length bs ≤ n → run n (encode bs) ≡ (bs, [])
unfolding encode run
run_back n [] b l = run_nil n
run_back zero (x ∷ bs) b l = absurd (omega arith)
run_back (suc n) (x ∷ bs) b l =
    ap (λ z. onward z (run n) (written x ++ encode bs)) (octet_back x (encode bs) b.0) ∙ ap (λ z. (x ∷ z.0, z.1)) (run_back n bs b.1 (omega arith))

pub data_back : DataBack
data_back bs b l = run_back 1024 bs b l

pub decoded : (word : List ℕ) (n : ℕ) (before out : List ℕ) → n ≡ length (run 1024 word).0 → out ≡ (run 1024 word).0 ++ drop n before → Decoded word n before out
decoded word n before out c o bs b l e =
    let r : run 1024 word ≡ (bs, []) = ap (run 1024) e ∙ data_back bs b l in
    (c ∙ ap (λ z. length z.0) r, o ∙ ap (λ z. z.0 ++ drop n before) r)
