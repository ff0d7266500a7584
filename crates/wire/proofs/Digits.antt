-- Numbers and their bytes, there and back.
use Rattle.std.proofs.Common.{◌≡◌, ℕ, zero, suc, ◌+◌, ◌*◌, ◌/◌, ◌%◌, ◌^◌, ◌<◌, ◌≤◌, List, [], ◌∷◌, length, get_or, take, drop, refl, ap, ◌∙◌, arith}
use Rattle.std.proofs.lemmas.List.{drop_more, drop_all}
use Rattle.std.proofs.lemmas.Grind.{common_steps}
use Rattle.std.specs.Int.{w32, from_be_bytes}
use Rattle.crc32c.specs.Crc.{Bytes}
use Rattle.crc32c.proofs.Bounds.{Each, none, more}
use Rattle.wire.specs.Numbers.{number16, number32, number64, bytes2, bytes4, bytes8}

pub number64-bytes8 : (n : ℕ) → n < 2 ^ 64 → number64 (bytes8 n) 0 ≡ n
number64-bytes8 n h = omega arith

pub number32-bytes4 : (n : ℕ) → n < 2 ^ 32 → number32 (bytes4 n) 0 ≡ n
number32-bytes4 n h =
    let q1 : n / 2 ^ 24 % 256 ≡ n / 2 ^ 24 = omega arith in
    let q2 : n / 2 ^ 16 ≡ n / 2 ^ 24 * 256 + n / 2 ^ 16 % 256 = omega arith in
    let q3 : n / 2 ^ 8 ≡ n / 2 ^ 16 * 256 + n / 2 ^ 8 % 256 = omega arith in
    let q4 : n ≡ n / 2 ^ 8 * 256 + n % 256 = omega arith in
    omega arith

pub number16-bytes2 : (n : ℕ) → n < 2 ^ 16 → number16 (bytes2 n) 0 ≡ n
number16-bytes2 n h = omega arith

pub bytes8_are : (n : ℕ) → Each (bytes8 n)
bytes8_are n = more (omega arith) (more (omega arith) (more (omega arith) (more (omega arith) (more (omega arith) (more (omega arith) (more (omega arith) (more (omega arith) none)))))))

-- the bytes of a list from a place on, one by one
abbrev pub from8 : List ℕ → ℕ → List ℕ
from8 s at = get_or s at 0 ∷ get_or s (at + 1) 0 ∷ get_or s (at + 2) 0 ∷ get_or s (at + 3) 0 ∷ get_or s (at + 4) 0 ∷ get_or s (at + 5) 0 ∷ get_or s (at + 6) 0 ∷ get_or s (at + 7) 0 ∷ []

abbrev pub from4 : List ℕ → ℕ → List ℕ
from4 s at = get_or s at 0 ∷ get_or s (at + 1) 0 ∷ get_or s (at + 2) 0 ∷ get_or s (at + 3) 0 ∷ []

eight : (a b c d e f g h : ℕ) → a < 256 → b < 256 → c < 256 → d < 256 → e < 256 → f < 256 → g < 256 → h < 256
    → bytes8 (a * 2 ^ 56 + b * 2 ^ 48 + c * 2 ^ 40 + d * 2 ^ 32 + e * 2 ^ 24 + f * 2 ^ 16 + g * 2 ^ 8 + h) ≡ a ∷ b ∷ c ∷ d ∷ e ∷ f ∷ g ∷ h ∷ []
eight a b c d e f g h la lb lc ld le lf lg lh =
    let n : ℕ = a * 2 ^ 56 + b * 2 ^ 48 + c * 2 ^ 40 + d * 2 ^ 32 + e * 2 ^ 24 + f * 2 ^ 16 + g * 2 ^ 8 + h in
    let q1 : n / 2 ^ 56 % 256 ≡ a = omega arith in
    let q2 : n / 2 ^ 48 % 256 ≡ b = omega arith in
    let q3 : n / 2 ^ 40 % 256 ≡ c = omega arith in
    let q4 : n / 2 ^ 32 % 256 ≡ d = omega arith in
    let q5 : n / 2 ^ 24 % 256 ≡ e = omega arith in
    let q6 : n / 2 ^ 16 % 256 ≡ f = omega arith in
    let q7 : n / 2 ^ 8 % 256 ≡ g = omega arith in
    let q8 : n % 256 ≡ h = omega arith in
    rw (q1, q2, q3, q4, q5, q6, q7, q8)

pub bytes8-number64 : (s : List ℕ) (at : ℕ) → Bytes s → bytes8 (number64 s at) ≡ from8 s at
bytes8-number64 s at h = eight _ _ _ _ _ _ _ _ (h at) (h (at + 1)) (h (at + 2)) (h (at + 3)) (h (at + 4)) (h (at + 5)) (h (at + 6)) (h (at + 7))

four : (a b c d : ℕ) → a < 256 → b < 256 → c < 256 → d < 256 → bytes4 (a * 2 ^ 24 + b * 2 ^ 16 + c * 2 ^ 8 + d) ≡ a ∷ b ∷ c ∷ d ∷ []
four a b c d la lb lc ld =
    let n : ℕ = a * 2 ^ 24 + b * 2 ^ 16 + c * 2 ^ 8 + d in
    let q1 : n / 2 ^ 24 % 256 ≡ a = omega arith in
    let q2 : n / 2 ^ 16 % 256 ≡ b = omega arith in
    let q3 : n / 2 ^ 8 % 256 ≡ c = omega arith in
    let q4 : n % 256 ≡ d = omega arith in
    rw (q1, q2, q3, q4)

pub bytes4-number32 : (s : List ℕ) (at : ℕ) → Bytes s → bytes4 (number32 s at) ≡ from4 s at
bytes4-number32 s at h = four _ _ _ _ (h at) (h (at + 1)) (h (at + 2)) (h (at + 3))

pub bytes2-number16 : (a b : ℕ) → a < 256 → b < 256 → bytes2 (a * 2 ^ 8 + b) ≡ a ∷ b ∷ []
bytes2-number16 a b la lb =
    let q1 : (a * 2 ^ 8 + b) / 2 ^ 8 % 256 ≡ a = omega arith in
    let q2 : (a * 2 ^ 8 + b) % 256 ≡ b = omega arith in
    rw (q1, q2)

-- so many bytes from a place on
abbrev pub reads : ℕ → List ℕ → ℕ → List ℕ
reads zero s at = []
reads (suc n) s at = get_or s at 0 ∷ reads n s (at + 1)

pub reads_are : (n : ℕ) (s : List ℕ) (at : ℕ) → at + n ≤ length s → take n (drop at s) ≡ reads n s at
reads_are zero s at h = refl
reads_are (suc n) s at h =
    let l : at < length s = omega arith in
    ap (take (suc n)) (drop_more s at 0 l) ∙ ap (λ t. get_or s at 0 ∷ t) (reads_are n s (at + 1) (omega arith))

pub number32_is : (s xs : List ℕ) (at : ℕ) → at + 4 ≤ length s → xs ≡ take 4 (drop at s) → from_be_bytes w32 xs ≡ number32 s at
number32_is s xs at h e = rw e (grind (arith, common_steps))

pub last4 : (s : List ℕ) (at : ℕ) → length s ≡ at + 4 → drop at s ≡ from4 s at
last4 s at h =
    let l0 : at < length s = omega arith in
    let l1 : at + 1 < length s = omega arith in
    let l2 : at + 2 < length s = omega arith in
    let l3 : at + 3 < length s = omega arith in
    let l4 : length s ≤ at + 4 = omega arith in
    let p1 : at + 1 + 1 ≡ at + 2 = omega arith in
    let p2 : at + 2 + 1 ≡ at + 3 = omega arith in
    let p3 : at + 3 + 1 ≡ at + 4 = omega arith in
    drop_more s at 0 l0
    ∙ ap (λ t. get_or s at 0 ∷ t) (drop_more s (at + 1) 0 l1 ∙ ap (λ k. get_or s (at + 1) 0 ∷ drop k s) p1
    ∙ ap (λ t. get_or s (at + 1) 0 ∷ t) (drop_more s (at + 2) 0 l2 ∙ ap (λ k. get_or s (at + 2) 0 ∷ drop k s) p2
    ∙ ap (λ t. get_or s (at + 2) 0 ∷ t) (drop_more s (at + 3) 0 l3 ∙ ap (λ k. get_or s (at + 3) 0 ∷ drop k s) p3
    ∙ ap (λ t. get_or s (at + 3) 0 ∷ t) (drop_all (at + 4) s l4))))
