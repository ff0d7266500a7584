-- What the model keeps of a text, place by place.
use Rattle.std.proofs.Common.{◌≡◌, ℕ, suc, ◌+◌, ◌-◌, ◌<◌, ◌≤◌, true, false, cond, not, ◌&&◌, ltb, ◌⊎◌, List, [], ◌∷◌, length, get_or, sym, refl, ap, ◌∙◌, inl, inr, ⊎_elim, arith}
use Rattle.std.proofs.lemmas.Bool.{cond-true, cond-false, cases_eq, lt-ltb, le-ltb, and_from, and_left, and_right, cond_both}
use Rattle.hold.specs.Packet.{Piece, has, byte_at}
use Rattle.hold.specs.Conn.{keep}
use Rattle.lent.proofs.Turns.{has_same, has_other, byte_same, byte_other}

-- one byte that comes, as the model keeps it
abbrev keep_one : ℕ → ℕ → ℕ → ℕ → List Piece → List Piece
keep_one next edge p b ks = cond (not (ltb p next) && ltb p edge && not (has p ks)) (record { place = p; byte = b } ∷ ks) ks

-- at another place nothing changes
one-other : (next edge q b p : ℕ) (ks : List Piece) → (q ≡ p → ⊥) → (has p (keep_one next edge q b ks) ≡ has p ks) × (byte_at p (keep_one next edge q b ks) ≡ byte_at p ks)
one-other next edge q b p ks ne = cond_both (not (ltb q next) && ltb q edge && not (has q ks)) (record { place = q; byte = b } ∷ ks) ks
    (λ (ls : List Piece). (has p ls ≡ has p ks) × (byte_at p ls ≡ byte_at p ks))
    (λ _. (has_other (record { place = q; byte = b }) ks p ne, byte_other (record { place = q; byte = b }) ks p ne))
    (λ _. (refl, refl))

-- nor where the place is kept, passed or beyond the edge
one_same : (next edge q b : ℕ) (ks : List Piece) → (not (ltb q next) && ltb q edge && not (has q ks)) ≡ false → keep_one next edge q b ks ≡ ks
one_same next edge q b ks e = cond-false (not (ltb q next) && ltb q edge && not (has q ks)) (record { place = q; byte = b } ∷ ks) ks e

one_there : (next edge q b p : ℕ) (ks : List Piece) → has p ks ≡ true → (has p (keep_one next edge q b ks) ≡ true) × (byte_at p (keep_one next edge q b ks) ≡ byte_at p ks)
one_there next edge q b p ks h = ⊎_elim
    (λ (e : q ≡ p). let s : keep_one next edge q b ks ≡ ks = one_same next edge q b ks (and_right (not (ltb q next) && ltb q edge) (not (has q ks)) (ap (λ i. not (has i ks)) e ∙ ap not h)) in (ap (has p) s ∙ h, ap (byte_at p) s))
    (λ (ne : q ≡ p → ⊥). let o = one-other next edge q b p ks ne in (o.0 ∙ h, o.1))
    (cases_eq q p)

pub keep_there : (next edge q : ℕ) (bs : List ℕ) (ks : List Piece) (p : ℕ) → has p ks ≡ true → (has p (keep next edge q bs ks) ≡ true) × (byte_at p (keep next edge q bs ks) ≡ byte_at p ks)
unfolding keep
keep_there next edge q [] ks p h = (h, refl)
keep_there next edge q (b ∷ bs) ks p h =
    let o = one_there next edge q b p ks h in
    let r = keep_there next edge (q + 1) bs (keep_one next edge q b ks) p o.0 in
    (r.0, r.1 ∙ o.1)

-- a place that the text does not have, or that is passed or beyond the edge
abbrev pub Away : ℕ → ℕ → ℕ → ℕ → ℕ → Type 0
Away next edge q n p = ((p < next) ⊎ (edge ≤ p)) ⊎ ((p < q) ⊎ (q + n ≤ p))

pub keep_out : (next edge q : ℕ) (bs : List ℕ) (ks : List Piece) (p : ℕ) → Away next edge q (length bs) p → has p (keep next edge q bs ks) ≡ has p ks
unfolding keep
keep_out next edge q [] ks p o = refl
keep_out next edge q (b ∷ bs) ks p (inl o) = keep_out next edge (q + 1) bs (keep_one next edge q b ks) p (inl o) ∙ ⊎_elim
    (λ (e : q ≡ p). ap (has p) (one_same next edge q b ks (and_left (not (ltb q next) && ltb q edge) (not (has q ks)) (⊎_elim
    (λ (l : p < next). and_left (not (ltb q next)) (ltb q edge) (ap not (lt-ltb q next (omega arith))))
    (λ (l : edge ≤ p). and_right (not (ltb q next)) (ltb q edge) (le-ltb q edge (omega arith)))
    o))))
    (λ (ne : q ≡ p → ⊥). (one-other next edge q b p ks ne).0)
    (cases_eq q p)
keep_out next edge q (b ∷ bs) ks p (inr o) =
    let ne : (q ≡ p → ⊥) = λ e. ⊎_elim (λ (l : p < q). omega arith) (λ (l : q + suc (length bs) ≤ p). omega arith) o in
    keep_out next edge (q + 1) bs (keep_one next edge q b ks) p (inr (⊎_elim (λ (l : p < q). inl (omega arith)) (λ (l : q + suc (length bs) ≤ p). inr (omega arith)) o)) ∙ (one-other next edge q b p ks ne).0

one-new : (next edge q b : ℕ) (ks : List Piece) → next ≤ q → q < edge → has q ks ≡ false → (has q (keep_one next edge q b ks) ≡ true) × (byte_at q (keep_one next edge q b ks) ≡ b)
one-new next edge q b ks lo hi h =
    let s : keep_one next edge q b ks ≡ record { place = q; byte = b } ∷ ks =
    cond-true (not (ltb q next) && ltb q edge && not (has q ks)) (record { place = q; byte = b } ∷ ks) ks (and_from _ _ (and_from _ _ (ap not (le-ltb q next lo)) (lt-ltb q edge hi)) (ap not h)) in
    (ap (has q) s ∙ has_same (record { place = q; byte = b }) ks q refl, ap (byte_at q) s ∙ byte_same (record { place = q; byte = b }) ks q refl)

pub keep_in : (next edge q : ℕ) (bs : List ℕ) (ks : List Piece) (p : ℕ) → next ≤ p → p < edge → q ≤ p → p < q + length bs → has p ks ≡ false →
    (has p (keep next edge q bs ks) ≡ true) × (byte_at p (keep next edge q bs ks) ≡ get_or bs (p - q) 0)
unfolding keep
keep_in next edge q [] ks p a b c d h = absurd (omega arith)
keep_in next edge q (x ∷ bs) ks p a b c d h = ⊎_elim
    (λ (e : p ≡ q).
    let o = one-new next edge p x ks a b h in
    let here : keep_one next edge q x ks ≡ keep_one next edge p x ks = ap (λ i. keep_one next edge i x ks) (sym e) in
    let r = keep_there next edge (q + 1) bs (keep_one next edge q x ks) p (ap (has p) here ∙ o.0) in
    let z : p - q ≡ 0 = omega arith in
    (r.0, r.1 ∙ ap (byte_at p) here ∙ o.1 ∙ sym (ap (λ i. get_or (x ∷ bs) i 0) z)))
    (λ (ne : p ≡ q → ⊥).
    let o = one-other next edge q x p ks (λ e. ne (sym e)) in
    let r = keep_in next edge (q + 1) bs (keep_one next edge q x ks) p a b (omega arith) (omega arith) (o.0 ∙ h) in
    let z : p - q ≡ suc (p - (q + 1)) = omega arith in
    (r.0, r.1 ∙ sym (ap (λ i. get_or (x ∷ bs) i 0) z)))
    (cases_eq p q)
