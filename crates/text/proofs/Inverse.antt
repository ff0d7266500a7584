-- What is read stood in the line as it is written.
use Rattle.std.proofs.Common.{◌≡◌, ℕ, zero, suc, ◌+◌, ◌-◌, ◌*◌, ◌/◌, ◌%◌, ◌^◌, ◌<◌, ◌≤◌, Bool, true, false, cond, not, ◌&&◌, eqb, ltb, leb, List, [], ◌∷◌, ◌++◌, length, Ok, Err, decimal, Result, sym, refl, ap, ◌∙◌, subst, append_assoc, arith, rules}
use Rattle.std.specs.Str.{all_ascii_digits}
use Rattle.std.proofs.lemmas.Fmt.{decimal_digit, decimal-digits_value}
use Rattle.std.proofs.lemmas.Str.Parse.{IsNumeralModel, numerals_by_fold}
use Rattle.std.proofs.lemmas.Bool.{and_from, and_parts, leb-true, ltb-true, eqb-true, eqb-false, cond-false, cond-true}
use Rattle.std.proofs.lemmas.Bool.Decides.{nat_tests}
use Rattle.text.specs.Fronts.{Read, and_then, strip, is_digit, digits, number}
use Rattle.text.specs.Data.{is_plain, hex_of, written, encode, nibble, escape, octet, onward, run}
use Rattle.text.specs.Words.{tried, shorter, choose_from}
use Rattle.text.specs.Back.{Bytes}

pub same : {A : Type 0} (x y : A) → ◌≡◌ {A = Result A (List ℕ)} (Ok x) (Ok y) → x ≡ y
same x y e = cc

pub strip_is : (ws bs r : List ℕ) → strip ws bs ≡ Ok r → bs ≡ ws ++ r
unfolding strip
strip_is [] bs r e = cc
strip_is (w ∷ ws) [] r e = cc
strip_is (w ∷ ws) (b ∷ bs) r e = go (eqb b w) refl e (λ h. strip_is ws bs r h)
  where
    go : (t : Bool) → eqb b w ≡ t → cond t (strip ws bs) (Err (b ∷ bs)) ≡ Ok r → (strip ws bs ≡ Ok r → bs ≡ ws ++ r) → b ∷ bs ≡ w ∷ (ws ++ r)
    go true p f k = let x = eqb-true b w p in let y = k f in cc
    go false p f k = cc

pub choose_is : {K : Type 0} (spelt : K → List ℕ) (ws : List K) (line far : List ℕ) (w : K) (r : List ℕ) → choose_from spelt ws line far ≡ Ok (w, r) → line ≡ spelt w ++ r
unfolding choose_from
choose_is spelt [] line far w r e = cc
choose_is spelt (v ∷ ws) line far w r e = go (strip (spelt v) line) refl e (λ near f. choose_is spelt ws line near w r f)
  where
    go : (s : Result (List ℕ) (List ℕ)) → strip (spelt v) line ≡ s → tried v s far (choose_from spelt ws line) ≡ Ok (w, r) → ((near : List ℕ) → choose_from spelt ws line near ≡ Ok (w, r) → line ≡ spelt w ++ r) → line ≡ spelt w ++ r
    go (Ok q) p f k = strip_is (spelt v) line q p ∙ ap (λ z. spelt z.0 ++ z.1) (same (v, q) (w, r) f)
    go (Err q) p f k = k (shorter q far) f

read_on : ℕ → List ℕ → ℕ
read_on n [] = n
read_on n (c ∷ cs) = read_on (10 * n + (c - 48)) cs

own : IsNumeralModel (λ ds. all_ascii_digits ds ≡ true) (read_on 0)
unfolding read_on
own = numerals_by_fold _ (search rules) read_on (search rules)

-- digits behind m
record Spelt (limit m n : ℕ) (bs r : List ℕ) : Type 0 where
  ds : List ℕ
  front : bs ≡ ds ++ r
  all : all_ascii_digits ds ≡ true
  value : n ≡ read_on m ds
  small : n ≤ limit

digits_are : (limit m : ℕ) (bs : List ℕ) (n : ℕ) (r : List ℕ) → m ≤ limit → digits limit m bs ≡ Ok (n, r) → Spelt limit m n bs r
unfolding digits read_on
digits_are limit m [] n r l e =
    let t = same (m, []) (n, r) e in
    let x : n ≡ m = sym (ap (λ z. z.0) t) in
    record { ds = []; front = ap (λ z. z.1) t; all = refl; value = x; small = omega arith }
digits_are limit m (b ∷ bs) n r l e = go (is_digit b) (leb (10 * m + (b - 48)) limit) refl refl e (λ k f. digits_are limit (10 * m + (b - 48)) bs n r k f)
  where
    go : (t u : Bool) → is_digit b ≡ t → leb (10 * m + (b - 48)) limit ≡ u → cond t (cond u (digits limit (10 * m + (b - 48)) bs) (Err (b ∷ bs))) (Ok (m, b ∷ bs)) ≡ Ok (n, r)
        → (10 * m + (b - 48) ≤ limit → digits limit (10 * m + (b - 48)) bs ≡ Ok (n, r) → Spelt limit (10 * m + (b - 48)) n bs r) → Spelt limit m n (b ∷ bs) r
    go true true p q f k =
        let s = k (leb-true _ _ q) f in
        record { ds = b ∷ s.ds; front = ap (λ z. b ∷ z) s.front; all = and_from _ _ p s.all; value = s.value; small = s.small }
    go true false p q f k = cc
    go false u p q f k =
        let t = same (m, b ∷ bs) (n, r) f in
        let x : n ≡ m = sym (ap (λ z. z.0) t) in
        record { ds = []; front = ap (λ z. z.1) t; all = refl; value = x; small = omega arith }

pub number_is : (limit : ℕ) (bs : List ℕ) (n : ℕ) (r : List ℕ) → limit < 2 ^ 64 → number limit bs ≡ Ok (n, r) → (bs ≡ decimal n ++ r) × (n ≤ limit)
unfolding digits read_on
number_is limit [] n r l e = cc
number_is limit (b ∷ bs) n r l e = go (is_digit b) (eqb b 48) (leb (10 * 0 + (b - 48)) limit) refl refl refl e
  where
    go : (t u v : Bool) → is_digit b ≡ t → eqb b 48 ≡ u → leb (10 * 0 + (b - 48)) limit ≡ v → cond t (cond u (Ok (0, bs)) (cond t (cond v (digits limit (10 * 0 + (b - 48)) bs) (Err (b ∷ bs))) (Ok (0, b ∷ bs)))) (Err (b ∷ bs)) ≡ Ok (n, r)
        → (b ∷ bs ≡ decimal n ++ r) × (n ≤ limit)
    go true true v p q w f =
        let t = same (0, bs) (n, r) f in
        let x : n ≡ 0 = sym (ap (λ z. z.0) t) in
        let y : b ≡ 48 = eqb-true b 48 q in
        (ap (λ z. z ∷ bs) y ∙ ap (λ z. z ++ bs) (sym (decimal_digit 0 (omega arith))) ∙ ap (λ z. decimal 0 ++ z) (ap (λ z. z.1) t) ∙ ap (λ z. decimal z ++ r) (sym x), omega arith)
    go true false true p q w f =
        let s = digits_are limit (10 * 0 + (b - 48)) bs n r (leb-true _ _ w) f in
        let ds : List ℕ = b ∷ s.ds in
        let v : n ≡ read_on 0 ds = s.value in
        let k : n ≤ limit = s.small in
        let d : decimal (read_on 0 ds) ≡ ds = decimal-digits_value own ds (and_from _ _ p s.all) (omega arith) (λ h. absurd (eqb-false b 48 q h)) (omega arith) in
        (ap (λ z. b ∷ z) s.front ∙ ap (λ z. z ++ r) (sym (ap decimal v ∙ d)), k)
    go true false false p q w f = cc
    go false u v p q w f = cc

nibble_is : (bs : List ℕ) (d : ℕ) (r : List ℕ) → nibble bs ≡ Ok (d, r) → (bs ≡ hex_of d ∷ r) × (d < 16)
nibble_is [] d r e = cc
nibble_is (b ∷ bs) d r e = go (is_digit b) (leb 65 b && leb b 70) refl refl e
  where
    found : (v : ℕ) → ◌≡◌ {A = Read ℕ} (Ok (v, bs)) (Ok (d, r)) → hex_of v ≡ b → v < 16 → (b ∷ bs ≡ hex_of d ∷ r) × (d < 16)
    found v f h l =
        let t = same (v, bs) (d, r) f in
        let x : v ≡ d = ap (λ z. z.0) t in
        (ap (λ z. z ∷ bs) (sym h) ∙ ap (λ z. hex_of z.0 ∷ z.1) t, omega arith)

    go : (t u : Bool) → is_digit b ≡ t → (leb 65 b && leb b 70) ≡ u → cond {A = Read ℕ} t (Ok (b - 48, bs)) (cond u (Ok (b - 55, bs)) (Err (b ∷ bs))) ≡ Ok (d, r) → (b ∷ bs ≡ hex_of d ∷ r) × (d < 16)
    go true u p q f = found (b - 48) f (grind (arith, nat_tests)) (omega (arith, leb-true b 57 (and_parts (leb 48 b) (leb b 57) p).1))
    go false true p q f = found (b - 55) f (grind (arith, nat_tests)) (omega (arith, leb-true b 70 (and_parts (leb 65 b) (leb b 70) q).1))
    go false false p q f = cc

escaped : (h l : ℕ) → h < 16 → l < 16 → is_plain (16 * h + l) ≡ false → written (16 * h + l) ≡ 37 ∷ hex_of h ∷ hex_of l ∷ []
escaped h l m k p =
    let x : (16 * h + l) / 16 ≡ h = omega arith in
    let y : (16 * h + l) % 16 ≡ l = omega arith in
    cond-false _ _ _ p ∙ ap (λ z. 37 ∷ hex_of z ∷ hex_of ((16 * h + l) % 16) ∷ []) x ∙ ap (λ z. 37 ∷ hex_of h ∷ hex_of z ∷ []) y

escape_is : (bs : List ℕ) (v : ℕ) (r : List ℕ) → escape bs ≡ Ok (v, r) → (37 ∷ bs ≡ written v ++ r) × (v < 256)
escape_is bs v r e = high (nibble bs) refl e
  where
    plain : (h l : ℕ) (q s : List ℕ) → h < 16 → bs ≡ hex_of h ∷ q → (q ≡ hex_of l ∷ s) × (l < 16) → (t : Bool) → is_plain (16 * h + l) ≡ t → cond {A = Read ℕ} t (Err q) (Ok (16 * h + l, s)) ≡ Ok (v, r) → (37 ∷ bs ≡ written v ++ r) × (v < 256)
    plain h l q s m b n true p f = cc
    plain h l q s m b n false p f =
        let t = same (16 * h + l, s) (v, r) f in
        let x : 16 * h + l ≡ v = ap (λ z. z.0) t in
        let k : l < 16 = n.1 in
        (ap (λ z. 37 ∷ z) (b ∙ ap (λ z. hex_of h ∷ z) n.0) ∙ ap (λ z. z ++ s) (sym (escaped h l m k p)) ∙ ap (λ z. written z.0 ++ z.1) t, omega arith)

    low : (h : ℕ) (q : List ℕ) → h < 16 → bs ≡ hex_of h ∷ q → (x : Read ℕ) → nibble q ≡ x → and_then {B = ℕ × List ℕ} x (λ l s. cond (is_plain (16 * h + l)) (Err q) (Ok (16 * h + l, s))) ≡ Ok (v, r) → (37 ∷ bs ≡ written v ++ r) × (v < 256)
    low h q m b (Ok x) p f = plain h x.0 q x.1 m b (nibble_is q x.0 x.1 p) (is_plain (16 * h + x.0)) refl f
    low h q m b (Err s) p f = cc

    two : (h : ℕ) (q : List ℕ) (t : Bool) → cond t (Err bs) (and_then {B = ℕ × List ℕ} (nibble q) (λ l s. cond (is_plain (16 * h + l)) (Err q) (Ok (16 * h + l, s)))) ≡ Ok (v, r) → h < 16 → bs ≡ hex_of h ∷ q → (37 ∷ bs ≡ written v ++ r) × (v < 256)
    two h q true g m b = cc
    two h q false g m b = low h q m b (nibble q) refl g

    high : (x : Read ℕ) → nibble bs ≡ x → and_then {B = ℕ × List ℕ} x (λ h q. cond (ltb 2 h && ltb h 7) (Err bs) (and_then (nibble q) (λ l s. cond (is_plain (16 * h + l)) (Err q) (Ok (16 * h + l, s))))) ≡ Ok (v, r) → (37 ∷ bs ≡ written v ++ r) × (v < 256)
    high (Err s) p f = cc
    high (Ok x) p f = let n = nibble_is bs x.0 x.1 p in two x.0 x.1 (ltb 2 x.0 && ltb x.0 7) f n.1 n.0

octet_is : (bs : List ℕ) (v : ℕ) (r : List ℕ) → octet bs ≡ Ok (v, r) → (bs ≡ written v ++ r) × (v < 256)
octet_is [] v r e = cc
octet_is (b ∷ bs) v r e = go (eqb b 37) (is_plain b) refl refl e
  where
    go : (t u : Bool) → eqb b 37 ≡ t → is_plain b ≡ u → cond t (escape bs) (cond u (Ok (b, bs)) (Err (b ∷ bs))) ≡ Ok (v, r) → (b ∷ bs ≡ written v ++ r) × (v < 256)
    go true u p q f = let x = escape_is bs v r f in (ap (λ z. z ∷ bs) (eqb-true b 37 p) ∙ x.0, x.1)
    go false true p q f =
        let t = same (b, bs) (v, r) f in
        let l : b < 127 = ltb-true b 127 (and_parts (ltb b 127) (not (eqb b 37)) (and_parts (ltb 32 b) (ltb b 127 && not (eqb b 37)) q).1).0 in
        let x : b ≡ v = ap (λ z. z.0) t in
        (ap (λ z. z ++ bs) (sym (cond-true _ _ _ q)) ∙ ap (λ z. written z.0 ++ z.1) t, omega arith)
    go false false p q f = cc

-- at most n bytes are read, and they stood there encoded
pub record RunIs (n : ℕ) (bs : List ℕ) : Type 0 where
  pub front : bs ≡ encode (run n bs).0 ++ (run n bs).1
  pub bytes : Bytes (run n bs).0
  pub few : length (run n bs).0 ≤ n

pub run_is : (n : ℕ) (bs : List ℕ) → RunIs n bs
unfolding run encode
run_is zero bs = record { front = refl; bytes = tt; few = omega arith }
run_is (suc n) bs = go (octet bs) refl (λ r. run_is n r)
  where
    go : (x : Read ℕ) → octet bs ≡ x → ((r : List ℕ) → RunIs n r) → RunIs (suc n) bs
    go (Ok x) p k =
        let o = octet_is bs x.0 x.1 p in
        let s = k x.1 in
        let e : run (suc n) bs ≡ (x.0 ∷ (run n x.1).0, (run n x.1).1) = ap (λ z. onward z (run n) bs) p in
        record {
          front = o.0 ∙ ap (λ z. written x.0 ++ z) s.front ∙ sym (append_assoc (written x.0) (encode (run n x.1).0) (run n x.1).1) ∙ ap (λ z. encode z.0 ++ z.1) (sym e);
          bytes = subst (λ z. Bytes z.0) (sym e) (o.1, s.bytes);
          few = omega (arith, ap (λ z. length z.0) e, s.few);
        }
    go (Err r) p k =
        let e : run (suc n) bs ≡ ([], bs) = ap (λ z. onward z (run n) bs) p in
        record { front = ap (λ z. encode z.0 ++ z.1) (sym e); bytes = subst (λ z. Bytes z.0) (sym e) tt; few = omega (arith, ap (λ z. length z.0) e) }
