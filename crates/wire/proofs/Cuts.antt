-- A packet that is cut, or has bytes behind it, has a length that its count does not say.
use Rattle.std.proofs.Common.{◌≡◌, ℕ, ◌<◌, ◌≤◌, List, ◌++◌, length, get_or, take, drop, Ok, Err, sym, ap, ◌∙◌, arith, length-append, take-append-drop, length-take-le}
use Rattle.std.proofs.lemmas.List.{get_or_append_left}
use Rattle.hold.specs.Packet as m
use Rattle.wire.specs.declared.fault.Fault.TheVariants.{Shape}
use Rattle.wire.specs.Numbers.{number16}
use Rattle.wire.specs.Format.{decode}
use Rattle.wire.proofs.Took.{took, wrong_length}

-- the count stands in the front of a list
same_count : (s t : List ℕ) → 4 ≤ length s → number16 (s ++ t) 2 ≡ number16 s 2
same_count s t h =
    let a : get_or (s ++ t) 2 0 ≡ get_or s 2 0 = get_or_append_left s t 0 2 (omega arith) in
    let b : get_or (s ++ t) 3 0 ≡ get_or s 3 0 = get_or_append_left s t 0 3 (omega arith) in
    rw (a, b)

pub longer_is_refused_lem : (s t : List ℕ) (p : m.Packet) → decode s ≡ Ok p → 0 < length t → decode (s ++ t) ≡ Err Shape
longer_is_refused_lem s t p e h =
    let l = (took s p e).long in
    let n = length-append s t in
    let c = same_count s t (omega arith) in
    wrong_length (s ++ t) (λ few long. omega arith)

pub cut_is_refused_lem : (s : List ℕ) (p : m.Packet) (n : ℕ) → decode s ≡ Ok p → n < length s → decode (take n s) ≡ Err Shape
cut_is_refused_lem s p n e h =
    let l = (took s p e).long in
    let z : length (take n s) ≡ n = length-take-le n s (omega arith) in
    wrong_length (take n s) (λ few long.
    let c : number16 s 2 ≡ number16 (take n s) 2 = ap (λ t. number16 t 2) (sym (take-append-drop n s)) ∙ same_count (take n s) (drop n s) (omega arith) in
    omega arith)
