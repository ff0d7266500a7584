-- What a reader that took a packet has seen, and that no more is wanted.
use Rattle.std.proofs.Common.{◌≡◌, ℕ, ◌+◌, ◌-◌, ◌≤◌, Bool, true, false, cond, ◌&&◌, eqb, ltb, leb, List, length, get_or, take, Some, None, Ok, Err, Option, Result, sym, refl, ap, ◌∙◌, arith}
use Rattle.std.proofs.lemmas.Bool.{and_parts, eqb-true, eq-eqb, ltb-false, le-ltb, leb-true, le-leb, cond-true, cond-false}
use Rattle.std.proofs.lemmas.Bool.Decides.{nat_tests}
use Rattle.hold.specs.Packet as m
use Rattle.crc32c.specs.Crc.{crc_of}
use Rattle.packet.specs.declared.packet.Kind.{Kind}
use Rattle.wire.specs.declared.fault.Fault.{Fault}
use Rattle.wire.specs.declared.fault.Fault.TheVariants.{Shape, Check, Zero}
use Rattle.wire.specs.Numbers.{number16, number32}
use Rattle.packet.specs.Kinds.{kind_in}
use Rattle.wire.specs.Format.{check_fits, decode, decode_fields, decode_from, fault_in, fields_of, length_fits, unless}

pub record Took (s : List ℕ) (p : m.Packet) : Type 0 where
  pub kind : Kind
  pub known : kind_in (get_or s 0 0) ≡ Some kind
  pub few : number16 s 2 ≤ 1024
  pub long : length s ≡ 48 + number16 s 2
  pub check : number32 s (length s - 4) ≡ crc_of (take (length s - 4) s)
  pub flags : get_or s 1 0 ≤ 3
  pub fields : fields_of kind s ≡ p
  pub fine : fault_in p ≡ None

err_ok : {X : Type 0} (f : Fault) (p : m.Packet) → ◌≡◌ {A = Result m.Packet Fault} (Err f) (Ok p) → X
err_ok f p e = let z : ◌≡◌ {A = ℕ} 0 1 = cc in absurd (omega arith)

-- a test that must be passed, and one that must not
passed : (b : Bool) (x : Result m.Packet Fault) (f : Fault) (p : m.Packet) → cond b x (Err f) ≡ Ok p → (b ≡ true) × (x ≡ Ok p)
passed true x f p e = (refl, e)
passed false x f p e = err_ok f p e

spared : (b : Bool) (x : Result m.Packet Fault) (f : Fault) (p : m.Packet) → cond b (Err f) x ≡ Ok p → (b ≡ false) × (x ≡ Ok p)
spared true x f p e = err_ok f p e
spared false x f p e = (refl, e)

unless_ok : (o : Option Fault) (q p : m.Packet) → unless o q ≡ Ok p → (o ≡ None) × (q ≡ p)
unless_ok None q p e = (refl, cc)
unless_ok (Some f) q p e = err_ok f p e

took_by : (s : List ℕ) (p : m.Packet) (k : Kind) → kind_in (get_or s 0 0) ≡ Some k → (length_fits s ≡ true) → (check_fits s ≡ true) → (ltb 3 (get_or s 1 0) ≡ false) → (fault_in (fields_of k s) ≡ None) → fields_of k s ≡ p → Took s p
took_by s p k known l c f fine e =
    let (few, long) = and_parts (leb (number16 s 2) 1024) (eqb (length s) (48 + number16 s 2)) l in
    record {
      kind = k;
      known = known;
      few = leb-true _ _ few;
      long = eqb-true _ _ long;
      check = eqb-true _ _ c;
      flags = ltb-false _ _ f;
      fields = e;
      fine = ap fault_in (sym e) ∙ fine;
    }

took_kind : (s : List ℕ) (p : m.Packet) (o : Option Kind) → kind_in (get_or s 0 0) ≡ o → decode_from o s ≡ Ok p → Took s p
took_kind s p None known e = err_ok Shape p e
took_kind s p (Some k) known e =
    let a = passed (length_fits s) (cond (check_fits s) (decode_fields k s) (Err Check)) Shape p e in
    let b = passed (check_fits s) (decode_fields k s) Check p a.1 in
    let c = spared (ltb 3 (get_or s 1 0)) (unless (fault_in (fields_of k s)) (fields_of k s)) Zero p b.1 in
    let d = unless_ok (fault_in (fields_of k s)) (fields_of k s) p c.1 in
    took_by s p k known a.0 b.0 c.0 d.0 d.1

pub took : (s : List ℕ) (p : m.Packet) → decode s ≡ Ok p → Took s p
took s p e = took_kind s p (kind_in (get_or s 0 0)) refl e

length-fits : (s : List ℕ) → number16 s 2 ≤ 1024 → length s ≡ 48 + number16 s 2 → length_fits s ≡ true
length-fits s a b = ap (λ x. x && eqb (length s) (48 + number16 s 2)) (le-leb _ _ a) ∙ eq-eqb _ _ b

pub takes : (s : List ℕ) (p : m.Packet) → Took s p → decode s ≡ Ok p
takes s p t =
    let k = t.kind in
    ap (λ o. decode_from o s) t.known
    ∙ cond-true (length_fits s) (cond (check_fits s) (decode_fields k s) (Err Check)) (Err Shape) (length-fits s t.few t.long)
    ∙ cond-true (check_fits s) (decode_fields k s) (Err Check) (eq-eqb _ _ t.check)
    ∙ cond-false (ltb 3 (get_or s 1 0)) (Err Zero) (unless (fault_in (fields_of k s)) (fields_of k s)) (le-ltb _ _ t.flags)
    ∙ ap (λ q. unless (fault_in q) q) t.fields
    ∙ ap (λ o. unless o p) t.fine

-- a wrong length, whatever the kind
pub wrong_length : (s : List ℕ) → (number16 s 2 ≤ 1024 → length s ≡ 48 + number16 s 2 → ⊥) → decode s ≡ Err Shape
wrong_length s h = go (kind_in (get_or s 0 0))
  where
    no_fit : length_fits s ≡ false
    no_fit = grind (arith, nat_tests)

    go : (o : Option Kind) → decode_from o s ≡ Err Shape
    go None = refl
    go (Some k) = cond-false (length_fits s) (cond (check_fits s) (decode_fields k s) (Err Check)) (Err Shape) no_fit
