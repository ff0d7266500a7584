-- What is written is read back, and what is read was written so.
use Rattle.std.proofs.Common.{◌≡◌, ℕ, ◌+◌, ◌-◌, ◌/◌, ◌%◌, ◌<◌, ◌≤◌, Bool, true, false, cond, ◌||◌, eqb, ltb, leb, List, [], ◌∷◌, ◌++◌, length, get_or, take, drop, Some, None, Ok, Err, Option, Result, sym, refl, ap, ◌∙◌, arith, length-append, length-drop, take-append-drop, length-take-le, take-add}
use Rattle.std.proofs.lemmas.List.{take_at, get_or-append_right}
use Rattle.std.proofs.lemmas.Bool.{and_parts, leb-true, ltb-false, or_parts}
use Rattle.std.proofs.lemmas.Bool.Decides.{nat_tests}
use Rattle.hold.specs.Packet as m
use Rattle.crc32c.specs.Crc.{Bytes, crc_of}
use Rattle.crc32c.proofs.Bounds.{more, each_is, each_of, each_both, crc_lt}
use Rattle.packet.specs.Packets.{kind_of}
use Rattle.packet.specs.declared.packet.Kind.{Kind}
use Rattle.packet.specs.declared.packet.Kind.TheVariants.{Ask, Yes, Text, Bye}
use Rattle.wire.specs.declared.fault.Fault.{Fault}
use Rattle.wire.specs.declared.fault.Fault.TheVariants.{Zero, Range}
use Rattle.wire.specs.Numbers.{number16, number32, number64, bytes2, bytes4, bytes8}
use Rattle.packet.specs.Kinds.{kind_in, kind_number}
use Rattle.packet.specs.Places.{most_edge, most_place}
use Rattle.wire.specs.Format.{Written, covered, decode, encode, fault_in, fields_of, flags_of, header_of, is_none, range_fault, sound, stray_field, tag_fault}
use Rattle.wire.specs.Laws.{Fits, ReadsBack, WasWritten}
use Rattle.wire.proofs.Digits.{number64-bytes8, number32-bytes4, number16-bytes2, bytes8_are, bytes8-number64, bytes4-number32, bytes2-number16, reads_are, last4}
use Rattle.wire.proofs.Took.{Took, took, takes}

same-packet : (p q : m.Packet) → p.kind ≡ q.kind → p.from ≡ q.from → p.to ≡ q.to → p.place ≡ q.place → p.text ≡ q.text → p.last ≡ q.last → p.upto ≡ q.upto → p.all ≡ q.all → p.edge ≡ q.edge → p ≡ q
same-packet p q a b c d e f g h i =
    let r : ◌≡◌ {A = m.Packet} (record { kind = p.kind; from = p.from; to = p.to; place = p.place; text = p.text; last = p.last; upto = p.upto; all = p.all; edge = p.edge })
    (record { kind = q.kind; from = q.from; to = q.to; place = q.place; text = q.text; last = q.last; upto = q.upto; all = q.all; edge = q.edge }) = cc in
    r

same_header : (k l f g : ℕ) (c d a1 b1 a2 b2 a3 b3 a4 b4 a5 b5 : List ℕ) → k ≡ l → f ≡ g → c ≡ d → a1 ≡ b1 → a2 ≡ b2 → a3 ≡ b3 → a4 ≡ b4 → a5 ≡ b5
    → k ∷ f ∷ c ++ (a1 ++ (a2 ++ (a3 ++ (a4 ++ a5)))) ≡ l ∷ g ∷ d ++ (b1 ++ (b2 ++ (b3 ++ (b4 ++ b5))))
same_header k l f g c d a1 b1 a2 b2 a3 b3 a4 b4 a5 b5 p q r e1 e2 e3 e4 e5 = cc

-- a packet without a fault has its numbers in range

record InRange (p : m.Packet) : Type 0 where
  place : p.place ≤ most_place
  upto : p.upto ≤ most_place
  edge : p.edge ≤ most_edge

no_fault : (b : Bool) (f : Fault) (x : Option Fault) → cond b (Some f) x ≡ None → (b ≡ false) × (x ≡ None)
no_fault true f x e = let z : ◌≡◌ {A = ℕ} 0 1 = cc in absurd (omega arith)
no_fault false f x e = (refl, e)

in_range : (p : m.Packet) → fault_in p ≡ None → InRange p
in_range p e =
    let far = range_fault p.place p.upto p.edge in
    let a = no_fault (stray_field p) Zero (cond (tag_fault p.kind p.from p.to) (Some Zero) (cond far (Some Range) None)) e in
    let b = no_fault (tag_fault p.kind p.from p.to) Zero (cond far (Some Range) None) a.1 in
    let c = no_fault far Range None b.1 in
    let u = or_parts (ltb most_place p.place || ltb most_place p.upto) (ltb most_edge p.edge) c.0 in
    let v = or_parts (ltb most_place p.place) (ltb most_place p.upto) u.0 in
    record { place = ltb-false _ _ v.0; upto = ltb-false _ _ v.1; edge = ltb-false _ _ u.1 }

none_is : (o : Option Fault) → is_none o ≡ true → o ≡ None
none_is None e = refl
none_is (Some f) e = let z : ◌≡◌ {A = ℕ} 0 1 = cc in absurd (omega arith)

-- there

kind_back : (k : m.Kind) → (j : Kind) × (kind_in (kind_number k) ≡ Some j) × (kind_of j ≡ k)
kind_back m.Ask = (Ask, refl, refl)
kind_back m.Yes = (Yes, refl, refl)
kind_back m.Text = (Text, refl, refl)
kind_back m.Bye = (Bye, refl, refl)

flags_small : (l a : Bool) → flags_of l a ≤ 3
flags_small l a = grind (arith, nat_tests)

last_back : (l a : Bool) → eqb (flags_of l a % 2) 1 ≡ l
last_back true true = refl
last_back true false = refl
last_back false true = refl
last_back false false = refl

all_back : (l a : Bool) → eqb (flags_of l a / 2 % 2) 1 ≡ a
all_back true true = refl
all_back true false = refl
all_back false true = refl
all_back false false = refl

kind_small : (k : m.Kind) → kind_number k < 256
kind_small m.Ask = omega arith
kind_small m.Yes = omega arith
kind_small m.Text = omega arith
kind_small m.Bye = omega arith

covered_are : (p : m.Packet) → Bytes p.text → Bytes (covered p)
covered_are p h =
    each_is (covered p) (each_both (header_of p) p.text
    (more (kind_small p.kind) (more (let q = flags_small p.last p.all in omega arith) (more (omega arith) (more (omega arith)
    (each_both (bytes8 p.from) _ (bytes8_are p.from) (each_both (bytes8 p.to) _ (bytes8_are p.to) (each_both (bytes8 p.place) _ (bytes8_are p.place)
    (each_both (bytes8 p.upto) _ (bytes8_are p.upto) (bytes8_are p.edge)))))))))
    (each_of p.text h))

pub covered-length : (p : m.Packet) → length (covered p) ≡ 44 + length p.text
covered-length p = length-append (header_of p) p.text

pub encode-length : (p : m.Packet) → length (encode p) ≡ 48 + length p.text
encode-length p = length-append (covered p) (bytes4 (crc_of (covered p))) ∙ (let e = covered-length p in let q : length (covered p) + 4 ≡ 48 + length p.text = omega arith in q)

-- the last four bytes of a list
number_behind : (xs : List ℕ) (n : ℕ) → number32 (xs ++ bytes4 n) (length xs) ≡ number32 (bytes4 n) 0
number_behind xs n =
    let e : (k : ℕ) → get_or (xs ++ bytes4 n) (length xs + k) 0 ≡ get_or (bytes4 n) k 0 = λ k. get_or-append_right xs (bytes4 n) (length xs) (length xs + k) 0 refl (omega arith) ∙ ap (λ i. get_or (bytes4 n) i 0) (let q : length xs + k - length xs ≡ k = omega arith in q) in
    let e0 : get_or (xs ++ bytes4 n) (length xs) 0 ≡ get_or (bytes4 n) 0 0 = ap (λ i. get_or (xs ++ bytes4 n) i 0) (let q : length xs ≡ length xs + 0 = omega arith in q) ∙ e 0 in
    let e1 = e 1 in
    let e2 = e 2 in
    let e3 = e 3 in
    rw (e0, e1, e2, e3)

check_back : (p : m.Packet) → Bytes p.text → number32 (encode p) (length (encode p) - 4) ≡ crc_of (take (length (encode p) - 4) (encode p))
check_back p h =
    let at : length (encode p) - 4 ≡ length (covered p) = let a = covered-length p in let b = encode-length p in omega arith in
    let c : ℕ = crc_of (covered p) in
    ap (number32 (encode p)) at ∙ number_behind (covered p) c ∙ number32-bytes4 c (crc_lt (covered p) (covered_are p h))
    ∙ ap crc_of (sym (take_at (covered p) (bytes4 c) (length (encode p) - 4) (sym at)))

pub written_is_read_lem : (p : m.Packet) → Fits p → sound p ≡ true → decode (encode p) ≡ Ok p
written_is_read_lem p f s =
    let (few, fine) = and_parts (leb (length p.text) 1024) (is_none (fault_in p)) s in
    go (leb-true _ _ few) (none_is (fault_in p) fine) (kind_back p.kind)
  where
    go : length p.text ≤ 1024 → fault_in p ≡ None → (j : Kind) × (kind_in (kind_number p.kind) ≡ Some j) × (kind_of j ≡ p.kind) → decode (encode p) ≡ Ok p
    go few fine (j, known, same) =
        let r = in_range p fine in
        let rp = r.place in
        let ru = r.upto in
        let re = r.edge in
        let count : number16 (encode p) 2 ≡ length p.text = number16-bytes2 (length p.text) (omega arith) in
        let text : take (number16 (encode p) 2) (drop 44 (encode p)) ≡ p.text = take_at p.text (bytes4 (crc_of (covered p))) (number16 (encode p) 2) (sym count) in
        let from : number64 (encode p) 4 ≡ p.from = number64-bytes8 p.from f.from in
        let to : number64 (encode p) 12 ≡ p.to = number64-bytes8 p.to f.to in
        let place : number64 (encode p) 20 ≡ p.place = number64-bytes8 p.place (omega arith) in
        let upto : number64 (encode p) 28 ≡ p.upto = number64-bytes8 p.upto (omega arith) in
        let edge : number64 (encode p) 36 ≡ p.edge = number64-bytes8 p.edge (omega arith) in
        let last : eqb (get_or (encode p) 1 0 % 2) 1 ≡ p.last = last_back p.last p.all in
        let all : eqb (get_or (encode p) 1 0 / 2 % 2) 1 ≡ p.all = all_back p.last p.all in
        let fields : fields_of j (encode p) ≡ p = same-packet (fields_of j (encode p)) p same from to place text last upto all edge in
        takes (encode p) p (record {
          kind = j;
          known = known;
          few = omega arith;
          long = encode-length p ∙ ap (λ n. 48 + n) (sym count);
          check = check_back p f.text;
          flags = flags_small p.last p.all;
          fields = fields;
          fine = fine;
        })

-- and back

kind_of_lem : (b : ℕ) (k : Kind) → kind_in b ≡ Some k → kind_number (kind_of k) ≡ b
kind_of_lem b Ask e = grind (arith, nat_tests)
kind_of_lem b Yes e = grind (arith, nat_tests)
kind_of_lem b Text e = grind (arith, nat_tests)
kind_of_lem b Bye e = grind (arith, nat_tests)

flags_of_lem : (b : ℕ) → b ≤ 3 → flags_of (eqb (b % 2) 1) (eqb (b / 2 % 2) 1) ≡ b
flags_of_lem b h = grind (arith, nat_tests)

header_of_lem : (s : List ℕ) (k : Kind) → Bytes s → 48 + number16 s 2 ≡ length s → kind_in (get_or s 0 0) ≡ Some k → get_or s 1 0 ≤ 3 → header_of (fields_of k s) ≡ take 44 s
header_of_lem s k h long known flags =
    let n : length (take (number16 s 2) (drop 44 s)) ≡ number16 s 2 = length-take-le (number16 s 2) (drop 44 s) (let q = length-drop 44 s in omega arith) in
    let c : bytes2 (length (take (number16 s 2) (drop 44 s))) ≡ get_or s 2 0 ∷ get_or s 3 0 ∷ [] = ap bytes2 n ∙ bytes2-number16 (get_or s 2 0) (get_or s 3 0) (h 2) (h 3) in
    same_header _ _ _ _ _ _ _ _ _ _ _ _ _ _ _ _ (kind_of_lem (get_or s 0 0) k known) (flags_of_lem (get_or s 1 0) flags) c
    (bytes8-number64 s 4 h) (bytes8-number64 s 12 h) (bytes8-number64 s 20 h) (bytes8-number64 s 28 h) (bytes8-number64 s 36 h)
    ∙ sym (reads_are 44 s 0 (omega arith))

covered_of : (s : List ℕ) (p : m.Packet) → Bytes s → (t : Took s p) → covered (fields_of t.kind s) ≡ take (length s - 4) s
covered_of s p h t =
    let l = t.long in
    let at : 44 + number16 s 2 ≡ length s - 4 = omega arith in
    ap (λ x. x ++ take (number16 s 2) (drop 44 s)) (header_of_lem s t.kind h (sym l) t.known t.flags) ∙ sym (take-add 44 (number16 s 2) s) ∙ ap (λ n. take n s) at

pub read_is_written_lem : (s : List ℕ) (p : m.Packet) → Bytes s → decode s ≡ Ok p → s ≡ encode p
read_is_written_lem s p h e =
    let t = took s p e in
    let l = t.long in
    let c : covered p ≡ take (length s - 4) s = ap covered (sym t.fields) ∙ covered_of s p h t in
    let k : bytes4 (crc_of (covered p)) ≡ drop (length s - 4) s =
    ap bytes4 (ap crc_of c ∙ sym t.check) ∙ bytes4-number32 s (length s - 4) h ∙ sym (last4 s (length s - 4) (omega arith)) in
    sym (ap (λ x. x ++ bytes4 (crc_of (covered p))) c ∙ ap (λ x. take (length s - 4) s ++ x) k ∙ take-append-drop (length s - 4) s)

pub one_way : (s t : List ℕ) (p : m.Packet) → Bytes s → Bytes t → decode s ≡ Ok p → decode t ≡ Ok p → s ≡ t
one_way s t p h k d e = read_is_written_lem s p h d ∙ sym (read_is_written_lem t p k e)

pub was_written : (s : List ℕ) (r : Result m.Packet Fault) → Bytes s → r ≡ decode s → WasWritten s r
was_written s (Ok p) h e = read_is_written_lem s p h (sym e)
was_written s (Err f) h e = tt

pub reads_back : (p : m.Packet) (before after : List ℕ) (n : ℕ) → Fits p → Written p before after (Ok n) → ReadsBack p after (Ok n)
reads_back p before after n f (s, count, e) =
    ap (λ t. decode (take n t)) e ∙ ap decode (take_at (encode p) (drop n before) n (encode-length p ∙ sym count)) ∙ written_is_read_lem p f s
