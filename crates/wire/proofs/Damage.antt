-- A packet that was changed a little is no packet.
use Rattle.std.proofs.Common.{◌≡◌, ℕ, zero, suc, ◌+◌, ◌-◌, ◌*◌, ◌^◌, ◌<◌, ◌≤◌, ◌⊎◌, List, [], ◌∷◌, length, get_or, take, drop, Ok, Err, Result, sym, refl, ap, ◌∙◌, inl, inr, arith, length-take-le}
use lib.Bits.{bit_xor, xor_block, xor_lt}
use lib.Count.{ones, ones_cat}
use Rattle.std.proofs.lemmas.List.{get_or-drop}
use Rattle.std.proofs.lemmas.Bool.{cases_eq}
use Rattle.hold.specs.Packet as m
use Rattle.crc32c.specs.Crc.{Bytes, crc_of}
use Rattle.crc32c.specs.Distance.{OneRun, bits_apart}
use Rattle.crc32c.proofs.Bounds.{Each, none, more, each_is, each_of}
use Rattle.crc32c.proofs.Steps.{run_changes_lem}
use Rattle.crc32c.proofs.Apart.{four_apart_lem, none_apart}
use Rattle.wire.specs.declared.fault.Fault.{Fault}
use Rattle.wire.specs.Numbers.{number32, bytes4}
use Rattle.wire.specs.Format.{decode}
use Rattle.wire.specs.Laws.{Refused, body, check_of}
use Rattle.wire.proofs.Digits.{bytes4-number32, from4, last4}
use Rattle.wire.proofs.Took.{took}

-- what no packet can be is refused
pub refused : (t : List ℕ) → ((q : m.Packet) → decode t ≡ Ok q → ⊥) → Refused t
refused t h = go (decode t) refl
  where
    go : (r : Result m.Packet Fault) → decode t ≡ r → Refused t
    go (Ok q) e = absurd (h q e)
    go (Err f) e = (f, e)

-- the check that a packet has
pub seal : (s : List ℕ) (p : m.Packet) → decode s ≡ Ok p → number32 s (length s - 4) ≡ crc_of (body s)
seal s p e = (took s p e).check

number_of_check : (s : List ℕ) (n : ℕ) → number32 s n ≡ number32 (drop n s) 0
number_of_check s n =
    let e : (k : ℕ) → get_or (drop n s) k 0 ≡ get_or s (n + k) 0 = λ k. get_or-drop n s k 0 in
    let e0 : get_or (drop n s) 0 0 ≡ get_or s n 0 = e 0 ∙ ap (λ i. get_or s i 0) (let q : n + 0 ≡ n = omega arith in q) in
    let e1 = e 1 in
    let e2 = e 2 in
    let e3 = e 3 in
    rw (e0, e1, e2, e3)

pub body_bytes : (s : List ℕ) (n : ℕ) → Bytes s → Bytes (take n s)
body_bytes s n h = each_is (take n s) (each_take n s (each_of s h))
  where
    each_take : (n : ℕ) (s : List ℕ) → Each s → Each (take n s)
    each_take zero s e = none
    each_take (suc n) [] e = none
    each_take (suc n) (b ∷ s) (more l e) = more l (each_take n s e)

pub body-length : (s : List ℕ) → length (body s) ≡ length s - 4
body-length s = length-take-le (length s - 4) s (omega arith)

pub same_length : (s t : List ℕ) → length s ≡ length t → length (body s) ≡ length (body t)
same_length s t l = body-length s ∙ ap (λ n. n - 4) l ∙ sym (body-length t)

pub run_is_refused_lem : (s t : List ℕ) (p : m.Packet) → Bytes s → Bytes t → length s ≡ length t → decode s ≡ Ok p → check_of s ≡ check_of t → OneRun (body s) (body t) → Refused t
run_is_refused_lem s t p h k l e c o = refused t (λ q f.
    run_changes_lem (body s) (body t) (body_bytes s _ h) (body_bytes t _ k) (same_length s t l) o
    (sym (seal s p e) ∙ number_of_check s (length s - 4) ∙ ap (λ x. number32 x 0) c ∙ sym (number_of_check t (length t - 4)) ∙ seal t q f))

check_is : (s : List ℕ) (p : m.Packet) → Bytes s → decode s ≡ Ok p → check_of s ≡ bytes4 (crc_of (body s))
check_is s p h e =
    let l = (took s p e).long in
    last4 s (length s - 4) (omega arith) ∙ sym (bytes4-number32 s (length s - 4) h) ∙ ap bytes4 (seal s p e)

pub other_check_is_refused_lem : (s t : List ℕ) (p : m.Packet) → Bytes s → Bytes t → length s ≡ length t → decode s ≡ Ok p → body s ≡ body t → (check_of s ≡ check_of t → ⊥) → Refused t
other_check_is_refused_lem s t p h k l e b c = refused t (λ q f. c (check_is s p h e ∙ ap (λ x. bytes4 (crc_of x)) b ∙ sym (check_is t q k f)))

-- bits apart, in the body and in the check

apart_split : (n : ℕ) (s t : List ℕ) → length s ≡ length t → bits_apart s t ≡ bits_apart (take n s) (take n t) + bits_apart (drop n s) (drop n t)
apart_split zero s t l = omega arith
apart_split (suc n) [] t l = refl
apart_split (suc n) (a ∷ s) [] l = absurd (omega arith)
apart_split (suc n) (a ∷ s) (b ∷ t) l = let r = apart_split n s t (omega arith) in omega arith

four_ones : (a b c d e f g h : ℕ) → a < 2 ^ 8 → b < 2 ^ 8 → c < 2 ^ 8 → d < 2 ^ 8 → e < 2 ^ 8 → f < 2 ^ 8 → g < 2 ^ 8 → h < 2 ^ 8
    → ones (bit_xor (a * 2 ^ 24 + b * 2 ^ 16 + c * 2 ^ 8 + d) (e * 2 ^ 24 + f * 2 ^ 16 + g * 2 ^ 8 + h)) ≡ ones (bit_xor a e) + ones (bit_xor b f) + ones (bit_xor c g) + ones (bit_xor d h)
four_ones a b c d e f g h la lb lc ld le lf lg lh =
    let m : a * 2 ^ 24 + b * 2 ^ 16 + c * 2 ^ 8 + d ≡ ((a * 2 ^ 8 + b) * 2 ^ 8 + c) * 2 ^ 8 + d = omega arith in
    let n : e * 2 ^ 24 + f * 2 ^ 16 + g * 2 ^ 8 + h ≡ ((e * 2 ^ 8 + f) * 2 ^ 8 + g) * 2 ^ 8 + h = omega arith in
    ap (λ x. ones (bit_xor x (e * 2 ^ 24 + f * 2 ^ 16 + g * 2 ^ 8 + h))) m ∙ ap (λ x. ones (bit_xor (((a * 2 ^ 8 + b) * 2 ^ 8 + c) * 2 ^ 8 + d) x)) n
    ∙ block ((a * 2 ^ 8 + b) * 2 ^ 8 + c) ((e * 2 ^ 8 + f) * 2 ^ 8 + g) d h ld lh
    ∙ ap (λ x. x + ones (bit_xor d h)) (block (a * 2 ^ 8 + b) (e * 2 ^ 8 + f) c g lc lg ∙ ap (λ x. x + ones (bit_xor c g)) (block a e b f lb lf))
  where
    block : (x y r s : ℕ) → r < 2 ^ 8 → s < 2 ^ 8 → ones (bit_xor (x * 2 ^ 8 + r) (y * 2 ^ 8 + s)) ≡ ones (bit_xor x y) + ones (bit_xor r s)
    block x y r s hr hs = ap ones (xor_block 8 x y r s hr hs) ∙ ones_cat 8 (bit_xor x y) (bit_xor r s) (xor_lt 8 r s hr hs)

check_apart : (s t : List ℕ) (n : ℕ) → Bytes s → Bytes t → length s ≡ n + 4 → length t ≡ n + 4 → bits_apart (drop n s) (drop n t) ≡ ones (bit_xor (number32 s n) (number32 t n))
check_apart s t n h k l m =
    ap (λ x. bits_apart x (drop n t)) (last4 s n l) ∙ ap (bits_apart (from4 s n)) (last4 t n m)
    ∙ sum _ _ _ _ ∙ sym (four_ones _ _ _ _ _ _ _ _ (h n) (h (n + 1)) (h (n + 2)) (h (n + 3)) (k n) (k (n + 1)) (k (n + 2)) (k (n + 3)))
  where
    sum : (a b c d : ℕ) → a + (b + (c + (d + 0))) ≡ a + b + c + d
    sum a b c d = omega arith

pub few_bits_are_refused_lem : (s t : List ℕ) (p : m.Packet) → Bytes s → Bytes t → length s ≡ length t → decode s ≡ Ok p → 0 < bits_apart s t → bits_apart s t ≤ 3 → Refused t
few_bits_are_refused_lem s t p h k l e some few = refused t (λ q f. go q f (cases_eq (bits_apart (body s) (body t)) 0))
  where
    enough : bits_apart s t ≡ bits_apart (body s) (body t) + ones (bit_xor (crc_of (body s)) (crc_of (body t))) → length (body s) ≡ length (body t) → length (body s) ≤ 1068 → Bytes (body s) → Bytes (body t) → ((bits_apart (body s) (body t) ≡ 0) ⊎ (bits_apart (body s) (body t) ≡ 0 → ⊥)) → ⊥
    enough all len short hs ht (inl z) = let o = none_apart (body s) (body t) hs ht len z in omega arith
    enough all len short hs ht (inr z) = let o = four_apart_lem (body s) (body t) hs ht len short (omega arith) in omega arith

    go : (q : m.Packet) → decode t ≡ Ok q → ((bits_apart (body s) (body t) ≡ 0) ⊎ (bits_apart (body s) (body t) ≡ 0 → ⊥)) → ⊥
    go q f c =
        let long = (took s p e).long in
        let short = (took s p e).few in
        let n : ℕ = length s - 4 in
        let two : bits_apart s t ≡ bits_apart (body s) (take n t) + bits_apart (check_of s) (drop n t) = apart_split n s t l in
        let at : length t - 4 ≡ n = ap (λ i. i - 4) (sym l) in
        let body-t : take n t ≡ body t = ap (λ i. take i t) (sym at) in
        let ends : bits_apart (check_of s) (drop n t) ≡ ones (bit_xor (number32 s n) (number32 t n)) = check_apart s t n h k (omega arith) (omega arith) in
        let seal-t : number32 t n ≡ crc_of (body t) = ap (number32 t) (sym at) ∙ seal t q f in
        let crcs : ones (bit_xor (number32 s n) (number32 t n)) ≡ ones (bit_xor (crc_of (body s)) (crc_of (body t))) = ap (λ x. ones (bit_xor x (number32 t n))) (seal s p e) ∙ ap (λ x. ones (bit_xor (crc_of (body s)) x)) seal-t in
        let bodies : bits_apart (body s) (take n t) ≡ bits_apart (body s) (body t) = ap (bits_apart (body s)) body-t in
        let all : bits_apart s t ≡ bits_apart (body s) (body t) + ones (bit_xor (crc_of (body s)) (crc_of (body t))) = two ∙ ap (λ x. x + bits_apart (check_of s) (drop n t)) bodies ∙ ap (λ x. bits_apart (body s) (body t) + x) (ends ∙ crcs) in
        let hs = body_bytes s (length s - 4) h in
        let ht = body_bytes t (length t - 4) k in
        let len = body-length s in
        enough all (same_length s t l) (omega arith) hs ht c
