-- What a sender's steps do to what its ring has of the bytes given.
use Rattle.std.proofs.Common.{◌≡◌, ℕ, ◌+◌, ◌-◌, ◌%◌, ◌<◌, ◌≤◌, min, ltb, List, ◌++◌, length, get_or, take, drop, sym, refl, ap, ◌∙◌, subst, ⊎_elim, arith}
use Rattle.std.proofs.lemmas.List.{length-append, length-take, take_at, drop_at, length-drop, length-take-le, get_or_append_left, get_or-append_right, get_or-take, get_or-drop, ext_get_or}
use Rattle.std.proofs.lemmas.Bool.{lt-ltb, le-ltb, cond-true, cond-false, cases_lt}
use Rattle.packet.specs.Sizes.{capacity}
use Rattle.lent.specs.Sending.{free}
use Rattle.lent.specs.Rings.{SendRing}
use Rattle.lent.specs.Ring.{written, held}
use Rattle.lent.proofs.Writes.{length-written, written_at, length-held, held_at, filled}

-- n bytes more, of which all but the first s, that nobody reads, are written
pub send_more : (given upto n s : ℕ) (ring after bytes text g : List ℕ) → n ≤ length bytes → n ≤ free given upto → s ≡ n - capacity → text ≡ take (n - s) (drop s bytes) → after ≡ written (given + s) text ring → SendRing given upto ring g →
    SendRing (given + n) upto after (g ++ take n bytes)
send_more given upto n s ring after bytes text g le room es et er w = subst (λ (r : List ℕ). SendRing (given + n) upto r (g ++ take n bytes)) (sym er) (record {
  given_all = ap (λ k. k + n) w.given_all ∙ sym long;
  size = length-written (given + s) text ring ∙ w.size;
  part = (λ p lo hi. ⊎_elim (old p lo) (new p lo hi) (cases_lt p (given + s)));
  few = omega (arith, long, w.given_all);
  small = omega (arith, long, w.given_all);
})
  where
    long : length (g ++ take n bytes) ≡ length g + n
    long = length-append g (take n bytes) ∙ ap (λ k. length g + k) (length-take-le n bytes le)

    size : length text ≡ n - s
    size = ap length et ∙ simp (length-take, length-drop) (omega arith)

    old : (p : ℕ) → upto ≤ p → p < given + s → get_or (written (given + s) text ring) (p % capacity) 0 ≡ get_or (g ++ take n bytes) p 0
    old p lo l =
        let round : p % capacity ≡ (p + capacity) % capacity = omega arith in
        let lg : p < length g = omega (arith, w.given_all) in
        ap (λ k. get_or (written (given + s) text ring) k 0) round ∙ written_at (given + s) text ring (p + capacity) (omega (arith, size)) w.size (omega (arith, w.given_all)) (omega arith) ∙
        cond-false (ltb (p + capacity) (given + s + length text)) (get_or text (p + capacity - (given + s)) 0) (get_or ring ((p + capacity) % capacity) 0) (le-ltb (p + capacity) (given + s + length text) (omega (arith, size, w.given_all))) ∙
        ap (λ k. get_or ring k 0) (sym round) ∙ w.part p lo lg ∙ sym (get_or_append_left g (take n bytes) 0 p lg)

    new : (p : ℕ) → upto ≤ p → p < length (g ++ take n bytes) → given + s ≤ p → get_or (written (given + s) text ring) (p % capacity) 0 ≡ get_or (g ++ take n bytes) p 0
    new p lo hi l =
        let at : s + (p - (given + s)) ≡ p - length g = omega (arith, w.given_all) in
        let inn : p - (given + s) < n - s = omega (arith, long, w.given_all) in
        let gl : length g ≤ p = omega (arith, w.given_all) in
        let end : p - length g < n = omega (arith, long) in
        written_at (given + s) text ring p (omega (arith, size)) w.size l (omega (arith, long, w.given_all)) ∙
        cond-true (ltb p (given + s + length text)) (get_or text (p - (given + s)) 0) (get_or ring (p % capacity) 0) (lt-ltb p (given + s + length text) (omega (arith, size))) ∙
        ap (λ xs. get_or xs (p - (given + s)) 0) et ∙ get_or-take (n - s) (drop s bytes) (p - (given + s)) 0 inn ∙ get_or-drop s bytes (p - (given + s)) 0 ∙ ap (λ k. get_or bytes k 0) at ∙
        sym (get_or-append_right g (take n bytes) (length g) p 0 refl gl ∙ get_or-take n bytes (p - length g) 0 end)

-- what is copied out of the ring is what waits
read_is : (given upto p k n : ℕ) (ring g : List ℕ) → n ≡ min k (given - p) → SendRing given upto ring g → upto ≤ p → held p n ring ≡ take k (drop p g)
read_is given upto p k n ring g en w lo = ext_get_or 0 (held p n ring) (take k (drop p g)) (length-held p n ring ∙ sym len) at
  where
    len : length (take k (drop p g)) ≡ n
    len = simp (length-take, length-drop) (omega (arith, w.given_all))

    at : (i : ℕ) → i < length (held p n ring) → get_or (held p n ring) i 0 ≡ get_or (take k (drop p g)) i 0
    at i h =
        let hn : i < n = omega (arith, length-held p n ring) in
        let hk : i < k = omega arith in
        let hg : p + i < length g = omega (arith, w.given_all) in
        held_at p n ring i hn ∙ w.part (p + i) (omega arith) hg ∙ sym (get_or-drop p g i 0) ∙ sym (get_or-take k (drop p g) i 0 hk)

pub read_into : (given upto p k n : ℕ) (ring out part g : List ℕ) → n ≡ min k (given - p) → n ≤ length out → part ≡ held p (length (take n out)) ring → SendRing given upto ring g → upto ≤ p → take n (part ++ drop n out) ≡ take k (drop p g)
read_into given upto p k n ring out part g en le ep w lo =
    let e : part ≡ held p n ring = filled p n ring out part le ep in
    take_at part (drop n out) n (ap length e ∙ length-held p n ring) ∙ e ∙ read_is given upto p k n ring g en w lo

pub left_behind : (p n : ℕ) (ring out part : List ℕ) → n ≤ length out → part ≡ held p (length (take n out)) ring → drop n (part ++ drop n out) ≡ drop n out
left_behind p n ring out part le ep = drop_at part (drop n out) n (ap length (filled p n ring out part le ep) ∙ length-held p n ring)
