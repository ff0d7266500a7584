-- Bytes that are kept, and those whose turn has come: facts of the model alone.
use Rattle.std.proofs.Common.{◌≡◌, ℕ, zero, suc, ◌+◌, ◌<◌, ◌≤◌, true, false, ◌||◌, eqb, List, [], ◌∷◌, ◌++◌, length, get_or, sym, refl, ap, ◌∙◌, subst, ⊎_elim, arith}
use Rattle.std.proofs.lemmas.Bool.{cond-true, cond-false, eq-eqb, ne_eqb, cases_Bool}
use Rattle.hold.specs.Packet.{Piece, has, byte_at}
use Rattle.hold.specs.Conn.{turn}
use Rattle.hold.proofs.Pieces.{turn_short}

pub has_none : (p : ℕ) → has p [] ≡ false
unfolding has
has_none p = refl

pub has_same : (x : Piece) (ks : List Piece) (p : ℕ) → x.place ≡ p → has p (x ∷ ks) ≡ true
unfolding has
has_same x ks p e = ap (λ b. b || has p ks) (eq-eqb x.place p e)

pub has_other : (x : Piece) (ks : List Piece) (p : ℕ) → (x.place ≡ p → ⊥) → has p (x ∷ ks) ≡ has p ks
unfolding has
has_other x ks p ne = ap (λ b. b || has p ks) (ne_eqb x.place p ne)

pub byte_same : (x : Piece) (ks : List Piece) (p : ℕ) → x.place ≡ p → byte_at p (x ∷ ks) ≡ x.byte
unfolding byte_at
byte_same x ks p e = cond-true (eqb x.place p) x.byte (byte_at p ks) (eq-eqb x.place p e)

pub byte_other : (x : Piece) (ks : List Piece) (p : ℕ) → (x.place ≡ p → ⊥) → byte_at p (x ∷ ks) ≡ byte_at p ks
unfolding byte_at
byte_other x ks p ne = cond-false (eqb x.place p) x.byte (byte_at p ks) (ne_eqb x.place p ne)

turn_yes : (n next : ℕ) (ks : List Piece) → has next ks ≡ true → turn (suc n) next ks ≡ byte_at next ks ∷ turn n (next + 1) ks
unfolding turn
turn_yes n next ks e = cond-true (has next ks) (byte_at next ks ∷ turn n (next + 1) ks) [] e

turn_no : (n next : ℕ) (ks : List Piece) → has next ks ≡ false → turn n next ks ≡ []
unfolding turn
turn_no zero next ks e = refl
turn_no (suc n) next ks e = cond-false (has next ks) (byte_at next ks ∷ turn n (next + 1) ks) [] e

pub turn_zero : (next : ℕ) (ks : List Piece) → turn 0 next ks ≡ []
unfolding turn
turn_zero next ks = refl

-- a run of full length begins with a byte that is there
full-has : (k next : ℕ) (ks : List Piece) → length (turn (suc k) next ks) ≡ suc k → has next ks ≡ true
full-has k next ks e = ⊎_elim (λ t. t) (λ f. let z : length (turn (suc k) next ks) ≡ 0 = ap length (turn_no (suc k) next ks f) in absurd (omega arith)) (cases_Bool (has next ks))

full-rest : (k next : ℕ) (ks : List Piece) → length (turn (suc k) next ks) ≡ suc k → length (turn k (next + 1) ks) ≡ k
full-rest k next ks e = let q : length (turn (suc k) next ks) ≡ suc (length (turn k (next + 1) ks)) = ap length (turn_yes k next ks (full-has k next ks e)) in omega arith

-- one more
pub turn_more : (k next : ℕ) (ks : List Piece) → length (turn k next ks) ≡ k → has (next + k) ks ≡ true → turn (suc k) next ks ≡ turn k next ks ++ byte_at (next + k) ks ∷ []
turn_more zero next ks e h =
    let h2 : has next ks ≡ true = subst (λ p. has p ks ≡ true) (let q : next + 0 ≡ next = omega arith in q) h in
    turn_yes 0 next ks h2 ∙ ap (λ t. byte_at next ks ∷ t) (turn_zero (next + 1) ks) ∙ ap (λ p. byte_at p ks ∷ []) (let q : next ≡ next + 0 = omega arith in q) ∙ ap (λ t. t ++ byte_at (next + 0) ks ∷ []) (sym (turn_zero next ks))
turn_more (suc k) next ks e h =
    let q : next + suc k ≡ (next + 1) + k = omega arith in
    let y = full-has k next ks e in
    turn_yes (suc k) next ks y ∙ ap (λ t. byte_at next ks ∷ t) (turn_more k (next + 1) ks (full-rest k next ks e) (subst (λ p. has p ks ≡ true) q h)) ∙
    ap (λ p. (byte_at next ks ∷ turn k (next + 1) ks) ++ byte_at p ks ∷ []) (sym q) ∙ ap (λ t. t ++ byte_at (next + suc k) ks ∷ []) (sym (turn_yes k next ks y))

-- a run that stops at a gap is all of it
turn_stop : (n k next : ℕ) (ks : List Piece) → length (turn k next ks) ≡ k → has (next + k) ks ≡ false → k ≤ n → turn n next ks ≡ turn k next ks
turn_stop n zero next ks e g h = turn_no n next ks (subst (λ p. has p ks ≡ false) (let q : next + 0 ≡ next = omega arith in q) g) ∙ sym (turn_zero next ks)
turn_stop zero (suc k) next ks e g h = absurd (omega arith)
turn_stop (suc n) (suc k) next ks e g h =
    let y = full-has k next ks e in
    let q : next + suc k ≡ (next + 1) + k = omega arith in
    turn_yes n next ks y ∙ ap (λ t. byte_at next ks ∷ t) (turn_stop n k (next + 1) ks (full-rest k next ks e) (subst (λ p. has p ks ≡ false) q g) (omega arith)) ∙ sym (turn_yes k next ks y)

pub turn-whole : (k next : ℕ) (ks : List Piece) → length (turn k next ks) ≡ k → has (next + k) ks ≡ false → turn (length ks) next ks ≡ turn k next ks
turn-whole k next ks e g = turn_stop (length ks) k next ks e g (let s = turn_short k next ks in omega (arith, e, s))

-- a run of n bytes that are there
pub turn-run : (n next : ℕ) (ks : List Piece) → ((p : ℕ) → next ≤ p → p < next + n → has p ks ≡ true) → (length (turn n next ks) ≡ n) × ((i : ℕ) → i < n → get_or (turn n next ks) i 0 ≡ byte_at (next + i) ks)
turn-run zero next ks all = (ap length (turn_zero next ks), λ i l. absurd (omega arith))
turn-run (suc n) next ks all =
    let e = turn_yes n next ks (all next (omega arith) (omega arith)) in
    let r = turn-run n (next + 1) ks (λ p lo hi. all p (omega arith) (omega arith)) in (
      ap length e ∙ ap suc r.0,
      λ i l. ap (λ xs. get_or xs i 0) e ∙ at i l r.1,
    )
  where
    at : (i : ℕ) → i < suc n → ((j : ℕ) → j < n → get_or (turn n (next + 1) ks) j 0 ≡ byte_at (next + 1 + j) ks) → get_or (byte_at next ks ∷ turn n (next + 1) ks) i 0 ≡ byte_at (next + i) ks
    at zero l r = ap (λ k. byte_at k ks) (let z : next ≡ next + 0 = omega arith in z)
    at (suc i) l r = r i (omega arith) ∙ ap (λ k. byte_at k ks) (let z : next + 1 + i ≡ next + suc i = omega arith in z)
