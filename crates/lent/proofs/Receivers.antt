-- What a receiver's steps do to what its ring has of the bytes got and kept.
use Rattle.std.proofs.Common.{◌≡◌, ℕ, ◌+◌, ◌-◌, ◌%◌, ◌<◌, ◌≤◌, min, max, true, false, ◌⊎◌, List, [], ◌++◌, length, get_or, take, drop, sym, refl, ap, ◌∙◌, subst, inl, inr, ⊎_elim, arith}
use Rattle.std.proofs.lemmas.List.{length-append, get_or_append_left, get_or-append_right, ext_get_or, length-take, length-drop, get_or-take, get_or-drop}
use Rattle.std.proofs.lemmas.Bool.{false≢true, cases_lt, cases_Bool}
use Rattle.hold.specs.Packet.{Piece, has, byte_at}
use Rattle.hold.specs.Conn.{keep, turn, from}
use Rattle.hold.proofs.Pieces.{has-from, byte_from}
use Rattle.packet.specs.Sizes.{capacity}
use Rattle.lent.specs.Sending.{limit}
use Rattle.lent.specs.Ring.{held}
use Rattle.lent.specs.Bits.{up, Marked, AllAre}
use Rattle.lent.specs.Gaps.{Filled}
use Rattle.lent.specs.Rings.{ReceiveRing}
use Rattle.lent.proofs.Writes.{length-held, held_at, filled}
use Rattle.lent.proofs.Marks.{up_round, marked_in, marked_out}
use Rattle.lent.proofs.Fillings.{filled_none}
use Rattle.lent.proofs.Keeps.{Away, keep_there, keep_out, keep_in}
use Rattle.lent.proofs.Turns.{has_none, turn-run, turn-whole}

pub receive_none : (w : ℕ) (ring bits : List ℕ) → w ≤ capacity → length ring ≡ capacity → AllAre 0 capacity false bits → ReceiveRing w 0 0 ring bits [] []
receive_none w ring bits le size down = record {
  got_all = refl;
  size = size;
  narrow = le;
  part = (λ p lo hi. absurd (omega arith));
  below = omega arith;
  few = omega arith;
  small = omega arith;
  kept = (λ p lo hi. has_none p ∙ sym (down p lo hi));
  bytes = (λ p lo e. absurd (false≢true (sym (has_none p) ∙ e)));
  beyond = (λ p lo. has_none p);
  near = (λ p lo e. absurd (false≢true (sym (has_none p) ∙ e)));
}

-- n bytes more are taken
pub receive_take : (w got taken n : ℕ) (ring bits g : List ℕ) (ks : List Piece) → n ≤ got - taken → ReceiveRing w got taken ring bits g ks → ReceiveRing w got (taken + n) ring bits g ks
receive_take w got taken n ring bits g ks le h = record {
  got_all = h.got_all;
  size = h.size;
  narrow = h.narrow;
  part = (λ p lo hi. h.part p (omega arith) hi);
  below = omega (arith, h.got_all, h.below);
  few = omega (arith, h.few);
  small = h.small;
  kept = h.kept;
  bytes = h.bytes;
  beyond = (λ p lo. h.beyond p (omega arith));
  near = h.near;
}

pub taken_bytes : (w got taken n : ℕ) (ring bits out part g : List ℕ) (ks : List Piece) → n ≡ min (length out) (got - taken) → part ≡ held taken (length (take n out)) ring → ReceiveRing w got taken ring bits g ks →
    part ++ drop n out ≡ take n (drop taken g) ++ drop n out
taken_bytes w got taken n ring bits out part g ks en ep h = ap (λ (xs : List ℕ). xs ++ drop n out) (filled taken n ring out part (omega arith) ep ∙ ext_get_or 0 (held taken n ring) (take n (drop taken g)) (length-held taken n ring ∙ sym len) at)
  where
    len : length (take n (drop taken g)) ≡ n
    len = simp (length-take, length-drop) (omega (arith, h.got_all))

    at : (i : ℕ) → i < length (held taken n ring) → get_or (held taken n ring) i 0 ≡ get_or (take n (drop taken g)) i 0
    at i l =
        let hn : i < n = omega (arith, length-held taken n ring) in
        held_at taken n ring i hn ∙ h.part (taken + i) (omega arith) (omega (arith, h.got_all)) ∙ sym (get_or-drop taken g i 0) ∙ sym (get_or-take n (drop taken g) i 0 hn)

-- the part of a text that is kept, n bytes from a place `first` on
pub record Cut (next edge place size first n : ℕ) : Type 0 where
  pub begins : next ≤ first
  pub ends : first + n ≤ edge
  pub covers : (p : ℕ) → next ≤ p → p < edge → place ≤ p → p < place + size → (first ≤ p) × (p < first + n)
  pub within : (p : ℕ) → first ≤ p → p < first + n → (p < edge) × (place ≤ p) × (p < place + size)

-- a text is kept
module _ (w got taken place first n : ℕ) (text part ring bits ring2 bits2 : List ℕ) (lim : place + length text ≤ limit) (cut : Cut got (taken + w) place (length text) first n)
    (part_at : (p : ℕ) → first ≤ p → p < first + n → get_or part (p - first) 0 ≡ get_or text (p - place) 0) (f : Filled first n part ring bits ring2 bits2) (g : List ℕ) (ks : List Piece) (h : ReceiveRing w got taken ring bits g ks) where
  next : got ≡ length g
  next = h.got_all

  fits : first + n ≤ got + capacity
  fits = omega (arith, next, cut.ends, h.below, h.narrow)

  ls : List Piece
  ls = keep (length g) (taken + w) place text ks

  -- a place that is not of the part stays as it is
  ring_out : (p : ℕ) → got ≤ p → p < got + capacity → (p < first) ⊎ (first + n ≤ p) → get_or ring2 (p % capacity) 0 ≡ get_or ring (p % capacity) 0
  ring_out p lo hi o = ⊎_elim
      (λ (l : p < first).
      let e : p % capacity ≡ (p + capacity) % capacity = omega arith in
      ap (λ k. get_or ring2 k 0) e ∙ f.rest (p + capacity) (omega (arith, fits)) (omega arith) ∙ ap (λ k. get_or ring k 0) (sym e))
      (λ (l : first + n ≤ p). f.rest p l (omega (arith, cut.begins)))
      o

  bits_out : (p : ℕ) → got ≤ p → p < got + capacity → (p < first) ⊎ (first + n ≤ p) → up bits2 p ≡ up bits p
  bits_out = marked_out first n got true bits bits2 f.marked cut.begins fits

  bits_in : (p : ℕ) → first ≤ p → p < first + n → up bits2 p ≡ true
  bits_in = marked_in first n got true bits bits2 f.marked cut.begins fits

  away : (p : ℕ) → (p < first) ⊎ (first + n ≤ p) → Away (length g) (taken + w) place (length text) p
  away p o = ⊎_elim (λ l. inl (inl l)) (λ (a : length g ≤ p). ⊎_elim
      (λ (b : p < taken + w). ⊎_elim
      (λ l. inr (inl l))
      (λ (c : place ≤ p). ⊎_elim
      (λ (d : p < place + length text). let v = cut.covers p (omega (arith, next)) b c d in absurd (⊎_elim (λ (l : p < first). omega arith) (λ (l : first + n ≤ p). omega arith) o))
      (λ l. inr (inr l))
      (cases_lt p (place + length text)))
      (cases_lt p place))
      (λ l. inl (inr l))
      (cases_lt p (taken + w))) (cases_lt p (length g))

  -- a place is of the part, or it is not
  part_or_not : (p : ℕ) → ((first ≤ p) × (p < first + n)) ⊎ ((p < first) ⊎ (first + n ≤ p))
  part_or_not p = ⊎_elim (λ l. inr (inl l)) (λ (a : first ≤ p). ⊎_elim (λ b. inl (a, b)) (λ l. inr (inr l)) (cases_lt p (first + n))) (cases_lt p first)

  new-one : (p : ℕ) → first ≤ p → p < first + n → has p ks ≡ false → (has p ls ≡ true) × (byte_at p ls ≡ get_or text (p - place) 0)
  unfolding ls
  new-one p a b e = let v = cut.within p a b in keep_in (length g) (taken + w) place text ks p (omega (arith, next, cut.begins)) v.0 v.1 v.2 e

  old_one : (p : ℕ) → has p ks ≡ true → (has p ls ≡ true) × (byte_at p ls ≡ byte_at p ks)
  unfolding ls
  old_one p e = keep_there (length g) (taken + w) place text ks p e

  none_more : (p : ℕ) → (p < first) ⊎ (first + n ≤ p) → has p ls ≡ has p ks
  unfolding ls
  none_more p o = keep_out (length g) (taken + w) place text ks p (away p o)

  marks : (p : ℕ) → length g ≤ p → p < length g + capacity → has p ls ≡ up bits2 p
  marks p lo hi = ⊎_elim
      (λ (a : (first ≤ p) × (p < first + n)). ⊎_elim (λ t. (old_one p t).0) (λ e. (new-one p a.0 a.1 e).0) (cases_Bool (has p ks)) ∙ sym (bits_in p a.0 a.1))
      (λ o. none_more p o ∙ h.kept p lo hi ∙ sym (bits_out p (omega (arith, next)) (omega (arith, next)) o))
      (part_or_not p)

  past : (p : ℕ) → taken + w ≤ p → has p ls ≡ false
  unfolding ls
  past p lo = keep_out (length g) (taken + w) place text ks p (inl (inr lo)) ∙ h.beyond p lo

  holds_it : (p : ℕ) → length g ≤ p → has p ls ≡ true → get_or ring2 (p % capacity) 0 ≡ byte_at p ls
  holds_it p lo t = ⊎_elim
      (λ (hi : p < taken + w). within_room p lo (omega (arith, h.below, h.narrow)) t)
      (λ (hi : taken + w ≤ p). absurd (false≢true (sym (past p hi) ∙ t)))
      (cases_lt p (taken + w))
    where
      within_room : (p : ℕ) → length g ≤ p → p < length g + capacity → has p ls ≡ true → get_or ring2 (p % capacity) 0 ≡ byte_at p ls
      within_room p lo hi t = ⊎_elim
          (λ (a : (first ≤ p) × (p < first + n)). ⊎_elim
          (λ (e : has p ks ≡ true). f.same p a.0 a.1 (sym (h.kept p lo hi) ∙ e) ∙ h.bytes p lo e ∙ sym (old_one p e).1)
          (λ (e : has p ks ≡ false). f.new p a.0 a.1 (sym (h.kept p lo hi) ∙ e) ∙ part_at p a.0 a.1 ∙ sym (new-one p a.0 a.1 e).1)
          (cases_Bool (has p ks)))
          (λ o.
          let e : has p ks ≡ true = sym (none_more p o) ∙ t in
          ring_out p (omega (arith, next)) (omega (arith, next)) o ∙ h.bytes p lo e ∙ sym (old_one p e).1)
          (part_or_not p)

  near_by : (p : ℕ) → length g ≤ p → has p ls ≡ true → p < limit
  near_by p lo t = ⊎_elim
      (λ (a : (first ≤ p) × (p < first + n)). let v = cut.within p a.0 a.1 in omega (arith, v.2))
      (λ o. h.near p lo (sym (none_more p o) ∙ t))
      (part_or_not p)

  pub receive_keep : ReceiveRing w got taken ring2 bits2 g (keep (length g) (taken + w) place text ks)
  unfolding ls
  receive_keep = record {
    got_all = h.got_all;
    size = f.size ∙ h.size;
    narrow = h.narrow;
    part = (λ p lo hi.
        let e : p % capacity ≡ (p + capacity) % capacity = omega arith in
        ap (λ k. get_or ring2 k 0) e ∙ ring_out (p + capacity) (omega (arith, next, h.few, h.narrow)) (omega (arith, next)) (inr (omega (arith, cut.ends, h.narrow))) ∙ ap (λ k. get_or ring k 0) (sym e) ∙ h.part p lo hi);
    below = h.below;
    few = h.few;
    small = h.small;
    kept = marks;
    bytes = holds_it;
    beyond = past;
    near = near_by;
  }

-- the part of a text from `first` to `to` is kept
pub keep_part : (w got taken place first to : ℕ) (text ring bits ring2 bits2 : List ℕ) → place + length text ≤ limit → first ≡ max place got → first < to →
    Filled first (length (take (to - place - (first - place)) (drop (first - place) text))) (take (to - place - (first - place)) (drop (first - place) text)) ring bits ring2 bits2 →
    (g : List ℕ) (ks : List Piece) → to ≡ min (taken + w) (place + length text) → ReceiveRing w got taken ring bits g ks → ReceiveRing w got taken ring2 bits2 g (keep (length g) (taken + w) place text ks)
keep_part w got taken place first to text ring bits ring2 bits2 lim ef less f g ks et h =
    receive_keep w got taken place first (length part) text part ring bits ring2 bits2 lim (record { begins = omega arith; ends = omega (arith, size); covers = (λ p a b c d. (omega arith, omega (arith, size))); within = (λ p a b. (omega (arith, size), omega arith, omega (arith, size))) }) at f g ks h
  where
    part : List ℕ
    part = take (to - place - (first - place)) (drop (first - place) text)

    size : length (take (to - place - (first - place)) (drop (first - place) text)) ≡ to - first
    size = simp (length-take, length-drop) (omega arith)

    at : (p : ℕ) → first ≤ p → p < first + length (take (to - place - (first - place)) (drop (first - place) text)) → get_or (take (to - place - (first - place)) (drop (first - place) text)) (p - first) 0 ≡ get_or text (p - place) 0
    at p a b =
        let e : first - place + (p - first) ≡ p - place = omega arith in
        get_or-take (to - place - (first - place)) (drop (first - place) text) (p - first) 0 (omega (arith, size)) ∙ get_or-drop (first - place) text (p - first) 0 ∙ ap (λ k. get_or text k 0) e

-- nothing of a text is kept
pub keep-nothing : (w got taken place : ℕ) (text ring bits : List ℕ) → place + length text ≤ limit → (g : List ℕ) (ks : List Piece) → min (taken + w) (place + length text) ≤ max place got → ReceiveRing w got taken ring bits g ks →
    ReceiveRing w got taken ring bits g (keep (length g) (taken + w) place text ks)
keep-nothing w got taken place text ring bits lim g ks none h =
    receive_keep w got taken place got 0 text [] ring bits ring bits lim (record { begins = omega arith; ends = omega (arith, h.got_all, h.few); covers = (λ p a b c d. absurd (omega arith)); within = (λ p a b. absurd (omega arith)) })
    (λ p a b. absurd (omega arith)) (filled_none got [] ring bits) g ks h

-- the next n bytes are handed on
module _ (w got taken n room : ℕ) (ring bits bits2 : List ℕ) (le : n ≤ room) (all : AllAre got n true bits) (gap : n < room → up bits (got + n) ≡ false) (marks : Marked got n false bits bits2)
    (g : List ℕ) (ks : List Piece) (er : room ≡ min (taken + w - got) capacity) (h : ReceiveRing w got taken ring bits g ks) where
  at_next : got ≡ length g
  at_next = h.got_all

  there : (p : ℕ) → length g ≤ p → p < length g + n → has p ks ≡ true
  there p lo hi = h.kept p lo (omega arith) ∙ all p (omega (arith, at_next)) (omega (arith, at_next))

  stop : has (length g + n) ks ≡ false
  stop = ⊎_elim
      (λ (l : n < room). h.kept (length g + n) (omega arith) (omega arith) ∙ ap (λ k. up bits (k + n)) (sym at_next) ∙ gap l)
      (λ (l : room ≤ n). h.beyond (length g + n) (omega (arith, at_next, h.few, h.below, h.narrow)))
      (cases_lt n room)

  long : length (turn n (length g) ks) ≡ n
  long = (turn-run n (length g) ks there).0

  more : List ℕ
  more = g ++ turn n (length g) ks

  size : length more ≡ length g + n
  unfolding more
  size = length-append g (turn n (length g) ks) ∙ ap (λ k. length g + k) long

  handed : ReceiveRing w (got + n) taken ring bits2 more (from (length more) ks)
  unfolding more
  handed = record {
    got_all = omega (arith, at_next, size);
    size = h.size;
    narrow = h.narrow;
    part = (λ p lo hi. ⊎_elim (old p lo) (λ (l : length g ≤ p). new p l (omega (arith, size))) (cases_lt p (length g)));
    below = omega (arith, size, h.below);
    few = omega (arith, size, at_next, h.few);
    small = ⊎_elim (λ (l : n < 1). omega (arith, size, h.small)) (λ (l : 1 ≤ n). let e = h.near (length g + (n - 1)) (omega arith) (there (length g + (n - 1)) (omega arith) (omega arith)) in omega (arith, size, e)) (cases_lt n 1);
    kept = (λ p lo hi. has-from p (length more) ks lo ∙ ⊎_elim
        (λ (l : p < length g + capacity). h.kept p (omega (arith, size)) l ∙ sym (marked_out got n got false bits bits2 marks (omega arith) (omega arith) p (omega (arith, size, at_next)) (omega (arith, at_next)) (inr (omega (arith, size, at_next)))))
        (λ (l : length g + capacity ≤ p). h.beyond p (omega (arith, h.below, h.narrow)) ∙ sym (round-again p l (omega (arith, size))))
        (cases_lt p (length g + capacity)));
    bytes = (λ p lo t. h.bytes p (omega (arith, size)) (sym (has-from p (length more) ks lo) ∙ t) ∙ sym (byte_from p (length more) ks lo));
    beyond = (λ p lo. has-from p (length more) ks (omega (arith, size, at_next, h.few)) ∙ h.beyond p lo);
    near = (λ p lo t. h.near p (omega (arith, size)) (sym (has-from p (length more) ks lo) ∙ t));
  }
    where
      old : (p : ℕ) → taken ≤ p → p < length g → get_or ring (p % capacity) 0 ≡ get_or more p 0
      old p lo l = h.part p lo l ∙ sym (get_or_append_left g (turn n (length g) ks) 0 p l)

      new : (p : ℕ) → length g ≤ p → p < length g + n → get_or ring (p % capacity) 0 ≡ get_or more p 0
      new p l hi =
          let e : length g + (p - length g) ≡ p = omega arith in
          h.bytes p l (there p l hi) ∙ sym (ap (λ k. byte_at k ks) e) ∙ sym ((turn-run n (length g) ks there).1 (p - length g) (omega arith)) ∙ sym (get_or-append_right g (turn n (length g) ks) (length g) p 0 refl l)

      round-again : (p : ℕ) → length g + capacity ≤ p → p < length g + n + capacity → up bits2 p ≡ false
      round-again p lo hi =
          let e : p - capacity + capacity ≡ p = omega arith in
          ap (up bits2) (sym e) ∙ up_round bits2 (p - capacity) ∙ marked_in got n got false bits bits2 marks (omega arith) (omega arith) (p - capacity) (omega (arith, at_next)) (omega (arith, at_next))

  pub receive_advance : ReceiveRing w (got + n) taken ring bits2 (g ++ turn (length ks) (length g) ks) (from (length (g ++ turn (length ks) (length g) ks)) ks)
  unfolding more
  receive_advance = subst (λ (t : List ℕ). ReceiveRing w (got + n) taken ring bits2 (g ++ t) (from (length (g ++ t)) ks)) (sym (turn-whole n (length g) ks long stop)) handed
