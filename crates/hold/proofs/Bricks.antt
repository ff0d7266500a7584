-- Bricks on tests, lists and pieces. Assumes nothing.
use Rattle.std.proofs.Common.{◌≡◌, ℕ, zero, suc, ◌+◌, ◌<◌, ◌≤◌, Bool, true, false, cond, not, ◌&&◌, T, eqb, ltb, ◌⊎◌, List, [], ◌∷◌, ◌++◌, length, take, drop, sym, refl, ap, ◌∙◌, inl, inr, ⊎_elim, append_assoc, append-nil, suc-add, zero-add, arith, length-append}
use mathlib.Core.List.Memᴰ
use mathlib.Core.List.{Memᴰ}
use Rattle.std.proofs.lemmas.Bool.Decides.{nat_tests}
use Rattle.std.proofs.lemmas.Bool.{cases_Bool, and_parts, eqb-true, ltb-true, ltb-false, not-true, cond_both, cond-true, cond-false}
use Rattle.hold.specs.Packet.{Piece, has, byte_at}
use Rattle.hold.specs.Conn.{keep, turn, from}
use Rattle.hold.specs.Rules.{AtPlace, Front}

pub T→true : (b : Bool) → T b → b ≡ true
T→true true t = refl
T→true false t = absurd t

pub true→T : (b : Bool) → b ≡ true → T b
true→T b e = rw e tt

pub false_true : {X : Type 0} (b : Bool) → b ≡ false → b ≡ true → X
false_true b p q = let z : ◌≡◌ {A = Bool} true false = cc in absurd (let w : ◌≡◌ {A = ℕ} 0 1 = cc in omega arith)

pub stands_spec : (i b : ℕ) (xs : List ℕ) → AtPlace i b xs → take 1 (drop i xs) ≡ b ∷ []
stands_spec i b [] h = absurd h
stands_spec zero b (x ∷ xs) h = ap (λ z. z ∷ []) h
stands_spec (suc i) b (x ∷ xs) h = stands_spec i b xs h

pub stands_more : (i b : ℕ) (xs ys : List ℕ) → AtPlace i b xs → AtPlace i b (xs ++ ys)
stands_more i b [] ys h = absurd h
stands_more zero b (x ∷ xs) ys h = h
stands_more (suc i) b (x ∷ xs) ys h = stands_more i b xs ys h

pub stands_take : (i b k : ℕ) (xs : List ℕ) → AtPlace i b (take k xs) → AtPlace i b xs
stands_take i b zero xs h = absurd h
stands_take i b (suc k) [] h = absurd h
stands_take zero b (suc k) (x ∷ xs) h = h
stands_take (suc i) b (suc k) (x ∷ xs) h = stands_take i b k xs h

pub stands_drop : (p i b : ℕ) (xs : List ℕ) → AtPlace i b (drop p xs) → AtPlace (p + i) b xs
stands_drop zero i b xs h = rw zero-add h
stands_drop (suc p) i b [] h = absurd h
stands_drop (suc p) i b (x ∷ xs) h = rw suc-add (stands_drop p i b xs h)

pub next_stands : (a rest : List ℕ) (b : ℕ) → AtPlace (length a) b (a ++ rest) → (r : List ℕ) × (rest ≡ b ∷ r)
next_stands [] [] b h = absurd h
next_stands [] (x ∷ r) b h = (r, ap (λ z. z ∷ r) h)
next_stands (x ∷ a) rest b h = next_stands a rest b h

-- pieces
pub has_mem : (p : ℕ) (ks : List Piece) → has p ks ≡ true → (x : Piece) × Memᴰ x ks × (x.place ≡ p) × (x.byte ≡ byte_at p ks)
unfolding has byte_at
has_mem p [] e = false_true false refl e
has_mem p (x ∷ xs) e = go (cases_Bool (eqb x.place p)) (λ k. has_mem p xs k)
  where
    go : (eqb x.place p ≡ true) ⊎ (eqb x.place p ≡ false) → (has p xs ≡ true → (y : Piece) × Memᴰ y xs × (y.place ≡ p) × (y.byte ≡ byte_at p xs)) →
        (y : Piece) × Memᴰ y (x ∷ xs) × (y.place ≡ p) × (y.byte ≡ cond (eqb x.place p) x.byte (byte_at p xs))
    go (inl t) r = (x, Memᴰ.head refl, eqb-true _ _ t, sym (cond-true _ _ _ t))
    go (inr f) r = let (y, m, a, b) = r (rw f at e) in (y, Memᴰ.tail m, a, b ∙ sym (cond-false _ _ _ f))

pub mem_from : (p : ℕ) (ks : List Piece) (x : Piece) → Memᴰ x (from p ks) → Memᴰ x ks × (p ≤ x.place)
unfolding from
mem_from p [] x m = absurd (Memᴰ.not-nil m)
mem_from p (y ∷ ys) x m = go (ltb y.place p) refl m (λ k. mem_from p ys x k)
  where
    go : (b : Bool) → ltb y.place p ≡ b → Memᴰ x (cond b (from p ys) (y ∷ from p ys)) → (Memᴰ x (from p ys) → Memᴰ x ys × (p ≤ x.place)) → Memᴰ x (y ∷ ys) × (p ≤ x.place)
    go true e n r = (Memᴰ.tail (r n).0, (r n).1)
    go false e n r = ⊎_elim (λ h. (Memᴰ.head h, rw h (ltb-false _ _ e))) (λ k. (Memᴰ.tail (r k).0, (r k).1)) (Memᴰ.cases_cons n)

-- a piece that is kept was there, or comes from the text, in its place, in the room
abbrev pub Came : ℕ → ℕ → ℕ → List ℕ → Piece → Type 0
Came next edge p bs x = (i : ℕ) × AtPlace i x.byte bs × (x.place ≡ p + i) × (next ≤ x.place) × (x.place < edge)

pub mem_keep : (next edge p : ℕ) (bs : List ℕ) (ks : List Piece) (x : Piece) → Memᴰ x (keep next edge p bs ks) → Memᴰ x ks ⊎ Came next edge p bs x
unfolding keep
mem_keep next edge p [] ks x m = inl m
mem_keep next edge p (b ∷ bs) ks x m = ⊎_elim (λ n. go (not (ltb p next) && ltb p edge && not (has p ks)) refl n) (λ (i, s, e, l, h). inr (suc i, s, e ∙ omega arith, l, h))
    (mem_keep next edge (p + 1) bs _ x m)
  where
    go : (c : Bool) → (not (ltb p next) && ltb p edge && not (has p ks)) ≡ c → Memᴰ x (cond c (record { place = p; byte = b } ∷ ks) ks) → Memᴰ x ks ⊎ Came next edge p (b ∷ bs) x
    go true e n = ⊎_elim (λ h. let (u, v) = and_parts _ _ e in let (s, t) = and_parts _ _ u in
        inr (0, ap (λ q. q.byte) (sym h), ap (λ q. q.place) h ∙ omega arith, rw h (ltb-false p next (not-true _ s)), rw h (ltb-true p edge t))) inl (Memᴰ.cases_cons n)
    go false e n = inl n

-- what has its turn lies below every bound of the places
pub turn_below : (n next bound : ℕ) (ks : List Piece) → ((x : Piece) → Memᴰ x ks → x.place < bound) → next ≤ bound → next + length (turn n next ks) ≤ bound
unfolding turn
turn_below zero next bound ks all le = omega arith
turn_below (suc n) next bound ks all le = let r = turn_below n (next + 1) bound ks all in let h = has_mem next ks in grind (arith, nat_tests, all)

-- a first part, made longer by what has its turn
pub front-next : (a g : List ℕ) (b : ℕ) → AtPlace (length a) b g → Front a g → Front (a ++ (b ∷ [])) g
front-next a g b s (rest, e) = go (next_stands a rest b (rw e s))
  where
    go : (r : List ℕ) × (rest ≡ b ∷ r) → Front (a ++ (b ∷ [])) g
    go (r, k) = (r, append_assoc a (b ∷ []) r ∙ ap (λ z. a ++ z) (sym k) ∙ e)

pub front-turn : (n : ℕ) (ks : List Piece) (a g : List ℕ) → ((x : Piece) → Memᴰ x ks → AtPlace x.place x.byte g) → Front a g → Front (a ++ turn n (length a) ks) g
unfolding turn
front-turn zero ks a g s f = rw append-nil f
front-turn (suc n) ks a g s f = cond_both (has (length a) ks) (byte_at (length a) ks ∷ turn n (length a + 1) ks) [] (λ t. Front (a ++ t) g)
    (λ h. go (byte_at (length a) ks) (has_mem (length a) ks h) (λ b k. front-turn n ks b g s k)) (λ _. rw append-nil f)
  where
    go : (b : ℕ) → (x : Piece) × Memᴰ x ks × (x.place ≡ length a) × (x.byte ≡ b) → ((c : List ℕ) → Front c g → Front (c ++ turn n (length c) ks) g) →
        Front (a ++ (b ∷ turn n (length a + 1) ks)) g
    go b (x, m, p, q) r = rw (length-append a (b ∷ []), append_assoc a (b ∷ []) (turn n (length a + 1) ks)) at (r (a ++ (b ∷ [])) (front-next a g b (rw (← p, ← q) (s x m)) f))
