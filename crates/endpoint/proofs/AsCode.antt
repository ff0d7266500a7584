-- This end is a code in the model's sense.
use Rattle.std.proofs.Common.{◌≡◌, ℕ, ◌+◌, ◌^◌, ◌<◌, ◌≤◌, min, Bool, true, false, cond, not, ◌&&◌, ◌||◌, eqb, ltb, leb, List, [], ◌++◌, length, is_some, Some, None, Ok, Err, Option, Result, sym, refl, ap, ◌∙◌, subst, ⊎_elim, arith}
use Rattle.std.proofs.lemmas.Bool.{and_parts, and_from, cases_Bool, cond-true, cond-false, le-leb, leb-true, lt-ltb, ltb-true, eq-eqb}
use Rattle.std.proofs.lemmas.Bool.Decides.{nat_tests}
use Rattle.hold.specs.Code.{Code, SameEnd, all_below, done_by, heard_by, is_ask, is_there, is_call, living, readable, same_bool, send_fits, tag_of, takes_place}
use Rattle.hold.specs.Conn.{Conn, Asked, new}
use Rattle.hold.specs.Packet as m
use Rattle.hold.specs.Promise.{tags}
use Rattle.hold.specs.World.{Breaks, Closes, Due, End, Ev, Forgets, Found, Gives, Hears, Listens, NotThere, Opens, Sends, Takes, There, Who, World, added, by_tag, coming_to, end, is_in, on_kind, other}
use Rattle.hold.proofs.Bricks.{false_true}
use Rattle.hold.proofs.Ideal.{does_if, done_if, firsts, hears-at, refuses_if, sent_if}
use Rattle.packet.specs.Agreed.{cfg_of}
use Rattle.packet.specs.Sizes.{text_size}
use Rattle.packet.specs.declared.packet.Packet.{Packet}
use Rattle.packet.specs.declared.settings.Settings.{Settings}
use Rattle.lent.specs.Sending.{free, most}
use Rattle.table.proofs.Lodging.{all_full, there}
use Rattle.table.specs.Search.{finds, has_room, is_there as in_table}
use Rattle.table.specs.declared.Wanted.TheVariants.{Peer}
use Rattle.endpoint.specs.AsCode.{Agrees, CodeTaking, close_fits, give_fits, is_dropped, is_ok, room_for, takes_it}
use Rattle.endpoint.specs.Calls.{Broken, Finished, Gave, Opened, break_number, close_number, give_number, open_number}
use Rattle.endpoint.specs.Hearing.{HeardAs, hear_number, needs, too_far, zero_tag}
use Rattle.endpoint.specs.Refusals.{number}
use Rattle.endpoint.specs.Stands.{Stands, cfg as cfg_in, lent}
use Rattle.endpoint.specs.declared.Endpoint.{Endpoint}
use Rattle.endpoint.specs.declared.Refusal.{Refusal}
use Rattle.endpoint.specs.declared.Refusal.TheVariants.{TooLong, ZeroTag, TooFar, NotThere as NoSuch, Closed, Full, TagThere, AllGiven}
use Rattle.endpoint.proofs.Ends.{no_peer}

-- every refusal has a number
numbered : (f : Refusal) → number f ≡ 0 → ⊥
numbered TooLong h = cc
numbered ZeroTag h = cc
numbered TooFar h = cc
numbered NoSuch h = cc
numbered Closed h = cc
numbered Full h = cc
numbered TagThere h = cc
numbered AllGiven h = cc

-- what a reader lets through is neither too long nor too far, and has its tags
record Fields (p : m.Packet) : Type 0 where
  long : ltb text_size (length p.text) ≡ false
  zero : zero_tag p ≡ false
  far : too_far p ≡ false

fields : (p : m.Packet) → readable p ≡ true → Fields p
fields p h = let (a, f) = and_parts _ _ h in let (b, _) = and_parts _ _ a in let (c, _) = and_parts _ _ b in let (d, to) = and_parts _ _ c in let (from, _) = and_parts _ _ d in
    let (g, edge) = and_parts _ _ f in let (i, upto) = and_parts _ _ g in let (j, place) = and_parts _ _ i in let (short, _) = and_parts _ _ j in
    record { long = at_most (length p.text) text_size short; zero = tagged p.kind p.from p.to from to; far = near p.place p.upto p.edge place upto edge }
  where
    at_most : (a b : ℕ) → leb a b ≡ true → ltb b a ≡ false
    at_most a b h = grind (arith, nat_tests)

    tagged : (k : m.Kind) (f t : ℕ) → not (eqb f 0) ≡ true → same_bool (eqb t 0) (is_ask k) ≡ true → (eqb f 0 || (not (is_ask k) && eqb t 0)) ≡ false
    tagged k f t p q = bools (eqb f 0) (eqb t 0) (is_ask k) p q
      where
        bools : (f t a : Bool) → not f ≡ true → same_bool t a ≡ true → (f || (not a && t)) ≡ false
        bools true t a p q = false_true false refl p
        bools false true true p q = refl
        bools false true false p q = false_true false refl q
        bools false false true p q = refl
        bools false false false p q = refl

    near : (a b c : ℕ) → leb a (2 ^ 62) ≡ true → leb b (2 ^ 62) ≡ true → leb c (2 ^ 62 + 65536) ≡ true → (ltb most a || (ltb most b || ltb (most + 65536) c)) ≡ false
    near a b c p q r = rw (at_most a most p, at_most b most q, at_most c (most + 65536) r) refl

module _ (x : Endpoint) (e : End) (s : Stands x e) where
  room_there : room_for e ≡ true → has_room x.table ≡ true
  room_there h = ⊎_elim (λ r. r) (λ r. absurd (omega (arith, all_full (cfg_in x) (lent x) x.table s.table r, ltb-true (living e.conns) 16 h))) (cases_Bool (has_room x.table))

  tag_free : (t : ℕ) → is_in t (tags e.conns) ≡ false → in_table t x.table ≡ false
  tag_free t h = ⊎_elim (λ r. false_true _ h (there (cfg_in x) (lent x) x.table s.table t r)) (λ r. r) (cases_Bool (in_table t x.table))

  open_taken : (t : ℕ) → eqb t 0 ≡ false → room_for e ≡ true → is_in t (tags e.conns) ≡ false → open_number x t ≡ 0
  open_taken t z r f = chain (eqb t 0) (has_room x.table) (in_table t x.table) z (room_there r) (tag_free t f)
    where
      chain : (a b c : Bool) → a ≡ false → b ≡ true → c ≡ false → ◌≡◌ {A = ℕ} (cond a 3 (cond (not b) 7 (cond c 8 0))) 0
      chain a b c p q r = rw (p, q, r) refl

  -- an ask that opens a connection takes a place
  takes_place_lem : (p : m.Packet) → needs x p ≡ true → takes_place p e ≡ true
  takes_place_lem p h = let (a, b) = and_parts (is_ask p.kind) _ h in and_from _ _ a (ap (λ z. not (is_there z)) (no_peer x e s p.from (none (finds (Peer p.from) x.table) (and_parts x.listens _ b).1)))
    where
      none : (o : Option ℕ) → not (is_some o) ≡ true → None ≡ o
      none None h = refl
      none (Some l) h = false_true false refl h

  hear_taken : (p : m.Packet) (t : ℕ) → readable p ≡ true → eqb t 0 ≡ false → is_in t (tags e.conns) ≡ false → is_dropped p e ≡ false → hear_number x p t ≡ 0
  hear_taken p t h z f d = causes (ltb text_size (length p.text)) (zero_tag p) (needs x p) (eqb t 0) (too_far p) (has_room x.table) (in_table t x.table) (fields p h).long (fields p h).zero z (fields p h).far (λ n. room_there (room n)) (tag_free t f)
    where
      causes : (a b n y c r u : Bool) → a ≡ false → b ≡ false → y ≡ false → c ≡ false → (n ≡ true → r ≡ true) → u ≡ false → ◌≡◌ {A = ℕ} (cond a 1 (cond (b || (n && y)) 3 (cond c 4 (cond (n && not r) 7 (cond (n && u) 8 0))))) 0
      causes a b true y c r u p q w k g v = rw (p, q, w, k, g refl, v) refl
      causes a b false y c r u p q w k g v = rw (p, q, k) refl

      room : needs x p ≡ true → room_for e ≡ true
      room n = let k = takes_place_lem p n in grind (arith, nat_tests)

not_false : (b : Bool) → not b ≡ true → b ≡ false
not_false true h = false_true false refl h
not_false false h = refl

-- what the contracts say agrees
opened_ok : (x y : Endpoint) (t : ℕ) (r : Result Packet Refusal) → Opened x y t r → open_number x t ≡ 0 → is_ok r ≡ true
opened_ok x y t (Ok p) o h = refl
opened_ok x y t (Err f) o h = absurd (numbered f (o.0 ∙ h))

gave_ok : (x y : Endpoint) (t : ℕ) (bs : List ℕ) (r : Result ℕ Refusal) → Gave x y t bs r → (e : End) → Stands x e → (f : Found) → by_tag t e.conns ≡ f → give_fits bs f ≡ true → r ≡ Ok (length bs)
gave_ok x y t bs r g e s NotThere k h = false_true false refl h
gave_ok x y t bs (Ok n) g e s (There c) k h = ap Ok (g.count e s c k ∙ few)
  where
    few : min (length bs) (free (length c.given) c.upto) ≡ length bs
    few = omega (arith, leb-true (length bs) (free (length c.given) c.upto) (and_parts (not c.closed && all_below 256 bs) (leb (length bs) (free (length c.given) c.upto)) h).1)
gave_ok x y t bs (Err f) g e s (There c) k h = absurd (numbered f (sym (g.0 e s) ∙ ap (give_number bs) k ∙ none))
  where
    unclosed : c.closed ≡ false
    unclosed = grind (arith, nat_tests)

    fits : length bs ≤ free (length c.given) c.upto
    fits = leb-true (length bs) (free (length c.given) c.upto) (and_parts (not c.closed && all_below 256 bs) (leb (length bs) (free (length c.given) c.upto)) h).1

    room : (n : ℕ) → n ≤ free (length c.given) c.upto → (leb most (length c.given) && ltb 0 n) ≡ false
    room n l = ⊎_elim (λ q. absurd (let (a, b) = and_parts _ _ q in omega (arith, l, leb-true most (length c.given) a, ltb-true 0 n b))) (λ q. q) (cases_Bool (leb most (length c.given) && ltb 0 n))

    none : give_number bs (There c) ≡ 0
    none = rw (unclosed, room (length bs) fits) refl

closed_ok : (x y : Endpoint) (t : ℕ) (r : Result (Unit {0}) Refusal) → Finished x y t r → (e : End) → Stands x e → (f : Found) → by_tag t e.conns ≡ f → close_fits f ≡ true → is_ok r ≡ true
closed_ok x y t r g e s NotThere k h = false_true false refl h
closed_ok x y t (Ok u) g e s (There c) k h = refl
closed_ok x y t (Err f) g e s (There c) k h = absurd (numbered f (sym (g.0 e s) ∙ ap close_number k ∙ none))
  where
    unclosed : c.closed ≡ false
    unclosed = grind (arith, nat_tests)

    none : close_number (There c) ≡ 0
    none = rw unclosed refl

broken_ok : (x y : Endpoint) (t : ℕ) (r : Result (Option Packet) Refusal) → Broken x y t r → (e : End) → Stands x e → (f : Found) → by_tag t e.conns ≡ f → is_there f ≡ true → is_ok r ≡ true
broken_ok x y t r g e s NotThere k h = false_true false refl h
broken_ok x y t (Ok u) g e s (There c) k h = refl
broken_ok x y t (Err f) g e s (There c) k h = absurd (numbered f (sym (g.0 e s) ∙ ap break_number k))

heard_ok : (x y : Endpoint) (p : m.Packet) (t : ℕ) (r : Result (Option Packet) Refusal) → HeardAs x y p t r → hear_number x p t ≡ 0 → is_ok r ≡ true
heard_ok x y p t (Ok q) o h = refl
heard_ok x y p t (Err f) o h = absurd (numbered f (o.0 ∙ h))

pub agrees : Agrees
agrees = record {
  opens = λ x y t r o e s cfg _ h. let (a, f) = and_parts _ _ h in let (b, q) = and_parts _ _ a in let (z, _) = and_parts _ _ b in opened_ok x y t r o (open_taken x e s t (not_false _ z) q (not_false _ f));
  gives = λ x y t bs r g e s cfg _ h. gave_ok x y t bs r g e s _ refl h;
  closes = λ x y t r g e s cfg _ h. closed_ok x y t r g e s _ refl h;
  breaks = λ x y t r g e s cfg _ h. broken_ok x y t r g e s _ refl h;
  hears = λ x y p t r o e s h z f d. heard_ok x y p t r o (hear_taken x e s p t h z f d);
}

-- the code
module _ (settings : Settings) where
  abbrev cfg : m.Settings
  cfg = cfg_of settings

  abbrev heard : m.Packet → ℕ → End → End
  heard p t s = cond (is_dropped p s) s (heard_by cfg p t p.kind s).now

  abbrev said : m.Packet → ℕ → End → List m.Packet
  said p t s = cond (is_dropped p s) [] (heard_by cfg p t p.kind s).sent

  hears_so : (o : Who) (p : m.Packet) (t : ℕ) (w : World) (s : End) → s ≡ end o w → is_in t w.drawn ≡ false → (takes_place p (end o w) ≡ true → room_for s ≡ true) →
      (heard p t s ≡ end o (on_kind cfg o p t p.kind w)) × (coming_to (other o) (on_kind cfg o p t p.kind w) ≡ said p t s ++ coming_to (other o) w)
  hears_so o p t w s q n r = let (a, b) = hears-at cfg o p t w s q n in let k = kept in (cond-false _ s (heard_by cfg p t p.kind s).now k ∙ a, b ∙ ap (λ y. y ++ coming_to (other o) w) (sym (cond-false _ [] (heard_by cfg p t p.kind s).sent k)))
    where
      stays : (a b : Bool) → (a ≡ true → b ≡ true) → (a && not b) ≡ false
      stays true b h = ap not (h refl)
      stays false b h = refl

      kept : is_dropped p s ≡ false
      kept = stays (takes_place p s) (room_for s) (λ h. r (subst (λ y. takes_place p y ≡ true) q h))

  drops : (p : m.Packet) (t : ℕ) (s x : End) → s ≡ x → takes_place p x ≡ true → room_for s ≡ false → (heard p t s ≡ x) × (said p t s ≡ [])
  drops p t s x q h r = let k : is_dropped p s ≡ true = and_from _ _ (subst (λ y. takes_place p y ≡ true) (sym q) h) (ap not r) in (cond-true _ s (heard_by cfg p t p.kind s).now k ∙ q, cond-true _ [] (heard_by cfg p t p.kind s).sent k)

  gives_fit : (t : ℕ) (bs : List ℕ) (s x : End) (c : Conn) → s ≡ x → by_tag t x.conns ≡ There c → c.closed ≡ false → all_below 256 bs ≡ true → length c.given + length bs ≤ c.upto + settings.room → length c.given + length bs ≤ 2 ^ 62 →
      give_fits bs (by_tag t s.conns) ≡ true
  gives_fit t bs s x c q e z b l k = ap (λ y. give_fits bs (by_tag t y.conns)) q ∙ ap (give_fits bs) e ∙ and_from _ _ (and_from _ _ (ap not z) b) (le-leb (length bs) (free (length c.given) c.upto) (omega (arith, l, k, settings.held)))

  others : (f : Found) (c : Conn) → f ≡ There c → (c.closed ≡ false → close_fits f ≡ true) × (is_there f ≡ true)
  others f c e = ((λ z. ap close_fits e ∙ ap not z), ap is_there e)

  only_had : (e : Ev) (s : End) → is_call e ≡ true → takes_it cfg e s ≡ true → is_there (by_tag (tag_of e) s.conns) ≡ true
  only_had (Gives o t bs) s h k = found (by_tag t s.conns) k
    where
      found : (f : Found) → give_fits bs f ≡ true → is_there f ≡ true
      found NotThere k = k
      found (There c) k = refl
  only_had (Closes o t) s h k = found (by_tag t s.conns) k
    where
      found : (f : Found) → close_fits f ≡ true → is_there f ≡ true
      found NotThere k = k
      found (There c) k = refl
  only_had (Takes o t n) s h k = k
  only_had (Breaks o t) s h k = k
  only_had (Listens o b) s h k = false_true false refl h
  only_had (Opens o t) s h k = false_true false refl h
  only_had (Due o t) s h k = false_true false refl h
  only_had (Sends o t p n) s h k = false_true false refl h
  only_had (Forgets o t) s h k = false_true false refl h
  only_had (Hears o i t) s h k = false_true false refl h

  opened_had : (o : Who) (t : ℕ) (s : End) → takes_it cfg (Opens o t) s ≡ true → is_there (by_tag t (done_if cfg (takes_it cfg) (Opens o t) s).conns) ≡ true
  unfolding by_tag
  opened_had o t s h = ap (λ y. is_there (by_tag t y.conns)) (cond-true _ (done_by (Opens o t) s) s h ∙ cond-false _ s (added (new Asked t 0) s) some) ∙ ap is_there (cond-true _ (There (new Asked t 0)) (by_tag t s.conns) (and_from _ _ (eq-eqb t t refl) refl))
    where
      some : eqb t 0 ≡ false
      some = let (a, _) = and_parts _ _ h in let (b, _) = and_parts _ _ a in let (z, _) = and_parts _ _ b in not_false (eqb t 0) z

  more : (t p k : ℕ) (s x : End) (c : Conn) → s ≡ x → by_tag t x.conns ≡ There c → send_fits cfg p k (by_tag t s.conns) ≡ true → (c.upto ≤ p) × (k ≤ cfg.size)
  more t p k s x c q e f = let h = subst (λ z. send_fits cfg p k z ≡ true) (ap (λ z. by_tag t z.conns) q ∙ e) f in let (a, b) = and_parts (leb c.upto p) (leb k cfg.size) h in (leb-true _ _ a, leb-true _ _ b)

  opens_fit : (t : ℕ) (s x : End) → s ≡ x → living x.conns < 16 → is_in t (tags x.conns) ≡ false → eqb t 0 ≡ false → ltb t (2 ^ 64) ≡ true → (not (eqb t 0) && ltb t (2 ^ 64) && room_for s && not (is_in t (tags s.conns))) ≡ true
  opens_fit t s x q l f z b = subst (λ y. (not (eqb t 0) && ltb t (2 ^ 64) && room_for y && not (is_in t (tags y.conns))) ≡ true) (sym q) (and_from _ _ (and_from _ _ (and_from _ _ (ap not z) b) (lt-ltb (living x.conns) 16 l)) (ap not f))

  code : Code cfg 16 End SameEnd
  code = record {
    first = record { conns = []; listens = false };
    first_so = firsts;
    had = λ t s. is_there (by_tag t s.conns);
    fits = takes_it cfg;
    call = done_if cfg (takes_it cfg);
    out = sent_if cfg (takes_it cfg);
    room_for = room_for;
    hears = heard;
    out_of_hears = said;
    does = does_if cfg (takes_it cfg);
    refuses = refuses_if cfg (takes_it cfg);
    hears_so = λ o p t w s q _ n _ _ _ r. hears_so o p t w s q n r;
    drops = λ p t s x q h r. drops p t s x q h r;
    has_room = λ s x q l. lt-ltb (living s.conns) 16 (subst (λ y. living y.conns < 16) (sym q) l);
    opens_fit = λ _ t s x q l f z b. opens_fit t s x q l f z b;
    gives_fit = λ _ t bs s x c q _ e z b l k. gives_fit t bs s x c q e z b l k;
    others_fit = λ _ t k b s. (refl, refl, refl, λ _ x c q e. let (a, d) = others (by_tag t s.conns) c (ap (λ y. by_tag t y.conns) q ∙ e) in (a, d, d));
    only_had = only_had;
    opened_had = opened_had;
    more = λ _ t p k s x c q e f. more t p k s x c q e f;
  }

  pub code_taking : CodeTaking cfg
  unfolding code
  code_taking = record { code = code; fits = λ _ _. refl; call = λ _ _. refl; out = λ _ _. refl; room = λ _. refl; hears = λ _ _ _. refl; out_of_hears = λ _ _ _. refl }
