-- Writes, one behind the other, to the front of a buffer.
use Rattle.std.proofs.Common.{◌≡◌, ℕ, ◌+◌, List, [], ◌++◌, length, take, drop, sym, refl, ap, ◌∙◌, append_assoc, length-append}
use Rattle.std.proofs.lemmas.List.{take_at, drop_at, drop-drop}
use Rattle.hold.specs.Packet as m
use Rattle.crc32c.specs.Crc.{crc_of}
use Rattle.wire.specs.Numbers.{bytes4}
use Rattle.wire.specs.Format.{covered, encode, header_of}

-- a write right behind what is written
behind : (done more rest out last : List ℕ) (at : ℕ) → length done ≡ at → out ≡ done ++ rest
    → last ≡ take at out ++ (more ++ drop (at + length more) out) → last ≡ (done ++ more) ++ drop (length more) rest
behind done more rest out last at n o e =
    let front : take at (done ++ rest) ≡ done = take_at done rest at n in
    let back : drop (length more) (drop at (done ++ rest)) ≡ drop (at + length more) (done ++ rest) = drop-drop (length more) at (done ++ rest) in
    let tail : drop at (done ++ rest) ≡ rest = drop_at done rest at n in
    e ∙ rw (o, front, ← back, tail) (sym (append_assoc done more (drop (length more) rest)))

-- the same, with what the buffer held at first
next : (done more x base out last : List ℕ) (at : ℕ) → length done ≡ at → out ≡ done ++ drop at base → x ≡ more
    → last ≡ take at out ++ (x ++ drop (at + length x) out) → last ≡ (done ++ more) ++ drop (at + length more) base
next done more x base out last at n o q e =
    behind done more (drop at base) out last at n o (e ∙ ap (λ y. take at out ++ (y ++ drop (at + length y) out)) q)
    ∙ ap (λ y. (done ++ more) ++ y) (drop-drop (length more) at base)

-- a buffer that has its first bytes, and the rest as it was
pub record Holds (done base out : List ℕ) : Type 0 where
  pub is : out ≡ done ++ drop (length done) base

pub nothing : (base : List ℕ) → Holds [] base base
nothing base = record { is = refl }

pub step : {done more x base out last : List ℕ} → Holds done base out → x ≡ more
    → last ≡ take (length done) out ++ (x ++ drop (length done + length x) out) → Holds (done ++ more) base last
step {done} {more} {x} {base} {out} {last} h q e = record { is = next done more x base out last (length done) refl h.is q e ∙ ap (λ n. (done ++ more) ++ drop n base) (sym (length-append done more)) }

-- the header, the text and the check
pub three : (p : m.Packet) (a b d k out : List ℕ) (crc : ℕ) → a ≡ header_of p ++ drop 44 out
    → b ≡ take 44 a ++ (p.text ++ drop (44 + length p.text) a) → crc ≡ crc_of (take (44 + length p.text) b) → k ≡ bytes4 crc
    → d ≡ take (44 + length p.text) b ++ (k ++ drop (44 + length p.text + length k) b)
    → d ≡ encode p ++ drop (44 + length p.text + 4) out
three p a b d k out crc ea eb ec ek ed =
    let n : ℕ = length p.text in
    let two : b ≡ covered p ++ drop (44 + n) out = next (header_of p) p.text p.text out a b 44 refl ea refl eb in
    let n2 : length (covered p) ≡ 44 + n = length-append (header_of p) p.text in
    let c1 : take (44 + n) b ≡ covered p = ap (take (44 + n)) two ∙ take_at (covered p) (drop (44 + n) out) (44 + n) n2 in
    let k1 : k ≡ bytes4 (crc_of (covered p)) = ek ∙ ap bytes4 (ec ∙ ap crc_of c1) in
    next (covered p) (bytes4 (crc_of (covered p))) k out b d (44 + n) n2 two k1 ed
