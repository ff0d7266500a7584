-- A table as the model's list of connections: what it finds, and what its changes are.
use Rattle.std.proofs.Common.{◌≡◌, ℕ, ◌<◌, Bool, true, false, not, ◌&&◌, eqb, ltb, List, ◌∷◌, length, set, is_some, Some, None, Option, sym, refl, ap, ◌∙◌, subst, ⊎_elim, arith}
use mathlib.Core.List.{Memᴰ}
use Rattle.std.proofs.lemmas.List.{get_or-set_other, get_or-set_same}
use Rattle.std.proofs.lemmas.Bool.{and_left, and_parts, and_right, cond_both, eqb-true, false≢true, ltb-false, or_cases, or_parts}
use Rattle.hold.specs.Code.{living}
use Rattle.hold.specs.Conn.{Conn}
use Rattle.hold.specs.Packet.{Settings}
use Rattle.hold.specs.Promise.{tags}
use Rattle.hold.specs.World.{is_in as is_tag, by_tag, by_theirs, change, gone, is_asked}
use Rattle.connection.specs.Fields.{blank, has_peer, has_tag}
use Rattle.connection.specs.Phases.{phase_of}
use Rattle.connection.specs.Stand.{ActsAs, LeftOver, Rings, Stand1}
use Rattle.connection.specs.declared.connection.Connection.{Connection}
use Rattle.lanes.specs.Used.{is_in, used, without}
use Rattle.lanes.proofs.Orders.{length_front, used_separate}
use Rattle.table.specs.Housed.{Housed, held}
use Rattle.table.specs.Lodges.{InLane, LeftIn, Lodges}
use Rattle.table.specs.Search.{at, finds, has_room, is_gone, is_there, meets, oldest_gone}
use Rattle.table.specs.declared.Table.{Table}
use Rattle.table.specs.declared.Wanted.TheVariants.{Gone, Peer, Tag}
use Rattle.table.specs.Grows.{Grown, less, remain}
use Rattle.table.proofs.Housing.{Agree, agree, all_live, changes, elsewhere, lane_low, lane_tag, seek_finds, spent, tagged, tagged-gone, taken_out, unchanged}
use Rattle.table.proofs.Searches.{eldest-finds, eldest_none}

-- the tests of the code are those of the model
same_tag : (cfg : Settings) {mem : Rings} (t : ℕ) (x : Connection) (c : Conn) → Stand1 cfg x mem c → has_tag t x.pairing ≡ tagged t c
same_tag cfg t x c s = ap (tagged t) s.is

tag_gone : (t : ℕ) (x : Connection) → is_gone x ≡ true → has_tag t x.pairing ≡ false
tag_gone t x g = and_right (eqb x.pairing.mine t) (not (is_gone x)) (ap not g)

abbrev peered : ℕ → Conn → Bool
peered t c = eqb c.theirs t && not (gone c.phase) && not (is_asked c.phase)

same_peer : (cfg : Settings) {mem : Rings} (t : ℕ) (x : Connection) (c : Conn) → Stand1 cfg x mem c → has_peer t x.pairing ≡ peered t c
same_peer cfg t x c s = ap (peered t) s.is

pub same-gone : (cfg : Settings) {mem : Rings} (x : Connection) (c : Conn) → Stand1 cfg x mem c → is_gone x ≡ gone c.phase
same-gone cfg x c s = ap (λ (d : Conn). gone d.phase) s.is

-- of one that is gone there is left what it had
left_of : (cfg : Settings) {mem : Rings} (x : Connection) (c : Conn) → is_gone x ≡ true → Stand1 cfg x mem c → LeftOver cfg x mem c
left_of cfg {mem} x c g s = subst (LeftOver cfg x mem) s.is (record { phase = g; over = g; mine = refl; ended = refl; kept = s.past.kept; holds = s.holds })

module _ (cfg : Settings) (mem : ℕ → Rings) (x : Table) {cs : List Conn} (h : Lodges cfg mem x cs) where
  abbrev P : ℕ → Conn → Type 0
  P = InLane cfg mem x.conns

  abbrev Q : ℕ → Conn → Type 0
  Q = LeftIn cfg mem x.conns

  pub by_tag_lem : (t : ℕ) → Agree P (finds (Tag t) x) (by_tag t cs)
  unfolding by_tag
  by_tag_lem t = agree P Q (λ l. has_tag t (at x l).pairing) (tagged t) (λ l c. same_tag cfg t (at x l) c) (tagged-gone t) (λ l c q. tag_gone t (at x l) q.phase) (by_tag t) refl (λ c ds. refl) h

  pub by_peer : (t : ℕ) → Agree P (finds (Peer t) x) (by_theirs t cs)
  unfolding by_theirs
  by_peer t = agree P Q (λ l. has_peer t (at x l).pairing) (peered t) (λ l c. same_peer cfg t (at x l) c)
      (λ c g. and_left (eqb c.theirs t && not (gone c.phase)) (not (is_asked c.phase)) (and_right (eqb c.theirs t) (not (gone c.phase)) (ap not g)))
      (λ l c q. let z = at x l in and_left (eqb z.pairing.theirs t && not (is_gone z)) (not (is_asked (phase_of z.pairing.phase))) (and_right (eqb z.pairing.theirs t) (not (is_gone z)) (ap not q.phase))) (by_theirs t) refl (λ c ds. refl) h

  low : (l : ℕ) → is_in l (used x.lanes) ≡ true → l < length x.conns
  low l m = omega (arith, lane_low l (used x.lanes) (used_separate x.lanes) m, x.sized)

  -- a lane is written, or its memory; the others have what they had
  module _ (mem' : ℕ → Rings) (l : ℕ) (z : Connection) (others : (k : ℕ) → (k ≡ l → ⊥) → mem' k ≡ mem k) where
    abbrev P' : ℕ → Conn → Type 0
    P' = InLane cfg mem' (set x.conns l z)

    abbrev Q' : ℕ → Conn → Type 0
    Q' = LeftIn cfg mem' (set x.conns l z)

    still : (k : ℕ) (c : Conn) → (k ≡ l → ⊥) → P k c → P' k c
    still k c ne s = rw (others k ne, get_or-set_other x.conns l k z blank ne) s

    still_q : (k : ℕ) (c : Conn) → (k ≡ l → ⊥) → Q k c → Q' k c
    still_q k c ne s = rw (others k ne, get_or-set_other x.conns l k z blank ne) s

    -- the table with that lane
    module _ (y : Table) (ec : y.conns ≡ set x.conns l z) where
      moved : {ls : List ℕ} {ds : List Conn} → used y.lanes ≡ ls → Housed P' Q' ls ds → Lodges cfg mem' y ds
      moved en t = rw (en, ec) t

      -- the connection of a tag is changed
      pub changed-lane : (t : ℕ) (f : Conn → Conn) → used y.lanes ≡ used x.lanes → Some l ≡ finds (Tag t) x → ActsAs cfg (at x l) (mem l) z (mem' l) f → Lodges cfg mem' y (change t f cs)
      changed-lane t f en e acts = moved en
          (changes P Q P' Q' t f (λ k. has_tag t (at x k).pairing) (λ k c. same_tag cfg t (at x k) c) (λ k c q. tag_gone t (at x k) q.phase) l
          (λ c s. rw (get_or-set_same x.conns l z blank (low l (seek_finds (λ k. has_tag t (at x k).pairing) l (used x.lanes) e).0)) (acts c s))
          still still_q (used_separate x.lanes) e h)

  -- nobody has the tag
  pub unchanged_all : (t : ℕ) (f : Conn → Conn) → None ≡ finds (Tag t) x → Lodges cfg mem x (change t f cs)
  unchanged_all t f e = unchanged P Q P Q t f (λ k. has_tag t (at x k).pairing) (λ k c. same_tag cfg t (at x k) c) (λ k c q. tag_gone t (at x k) q.phase) e h

  -- a lane whose connection is gone is let go
  over : (l : ℕ) → is_gone (at x l) ≡ true → (c : Conn) → P l c → gone c.phase ≡ true
  over l g c s = sym (same-gone cfg (at x l) c s) ∙ g

  pub removed : (y : Table) (l : ℕ) → is_gone (at x l) ≡ true → y.conns ≡ x.conns → used y.lanes ≡ without l (used x.lanes) → Lodges cfg mem y cs
  removed y l g ec en =
      rw (en, ec) (taken_out P Q l (over l g) h)

  -- those that stay when one more is wanted
  remaining : Housed P Q (remain x) cs
  remaining = cond_both (ltb x.lanes.count 16) (used x.lanes) (less (oldest_gone x) (used x.lanes)) (λ ls. Housed P Q ls cs) (λ _. h) (λ _. go (oldest_gone x) refl)
    where
      go : (o : Option ℕ) → oldest_gone x ≡ o → Housed P Q (less o (used x.lanes)) cs
      go None e = h
      go (Some l) e = taken_out P Q l (over l (eldest-finds (λ k. is_gone (at x k)) l (used x.lanes) (sym e)).1) h

  -- one more is added
  pub grown : (y : Table) (mem' : ℕ → Rings) (l : ℕ) (z : Connection) (c : Conn) → Grown x y z (Some l) → ((k : ℕ) → (k ≡ l → ⊥) → mem' k ≡ mem k) → Stand1 cfg z (mem' l) c → Lodges cfg mem' y (c ∷ cs)
  grown y mem' l z c (_, lt, out, en, ec) others s = moved mem' l z others y ec en
      (held (rw (get_or-set_same x.conns l z blank (let q : l < length x.conns = omega (arith, x.sized) in q)) s)
      (elsewhere P Q (P' mem' l z others) (Q' mem' l z others) l (still mem' l z others) (still_q mem' l z others) out remaining))

  -- where there is no room, sixteen live
  pub all_full : has_room x ≡ false → living cs ≡ 16
  all_full e =
      let (a, b) = or_parts (ltb x.lanes.count 16) (is_some (oldest_gone x)) e in
      let n = none_there (oldest_gone x) b in
      let none-gone = eldest_none (λ k. is_gone (at x k)) (used x.lanes) n in
      all_live P Q (λ l c m s. sym (same-gone cfg (at x l) c s) ∙ none-gone l m) (λ l c m q. false≢true (sym (none-gone l m) ∙ q.phase)) h ∙
      length_front x.lanes.count x.lanes.order ∙ (let q : x.lanes.count ≡ 16 = omega (arith, x.lanes.few, ltb-false x.lanes.count 16 a) in q)
    where
      none_there : (o : Option ℕ) → is_some o ≡ false → None ≡ o
      none_there None b = refl
      none_there (Some l) b = absurd cc

  -- a tag that is there is one of the model's
  pub there : (t : ℕ) → is_there t x ≡ true → is_tag t (tags cs) ≡ true
  there t e = ⊎_elim {0, 0, 0} (living-one (finds (Tag t) x) refl) (gone_one (finds (Gone t) x) refl) (or_cases (is_some (finds (Tag t) x)) (is_some (finds (Gone t) x)) e)
    where
      mine_of : (l : ℕ) → (at x l).pairing.mine ≡ t → is_in l (used x.lanes) ≡ true → is_tag t (tags cs) ≡ true
      mine_of l q m = lane_tag P Q l t (λ c s. ap (λ (d : Conn). d.mine) (sym s.is) ∙ q) (λ c s. sym s.mine ∙ q) m h

      living-one : (o : Option ℕ) → finds (Tag t) x ≡ o → is_some o ≡ true → is_tag t (tags cs) ≡ true
      living-one None q b = absurd cc
      living-one (Some l) q b =
          let f = seek_finds (λ k. has_tag t (at x k).pairing) l (used x.lanes) (sym q) in
          mine_of l (eqb-true (at x l).pairing.mine t (and_parts (eqb (at x l).pairing.mine t) (not (is_gone (at x l))) f.1).0) f.0

      gone_one : (o : Option ℕ) → finds (Gone t) x ≡ o → is_some o ≡ true → is_tag t (tags cs) ≡ true
      gone_one None q b = absurd cc
      gone_one (Some l) q b =
          let f = seek_finds (λ k. meets (Gone t) (at x k)) l (used x.lanes) (sym q) in
          mine_of l (eqb-true (at x l).pairing.mine t (and_parts (is_gone (at x l)) (eqb (at x l).pairing.mine t) f.1).1) f.0

  -- of a connection that is gone its user takes more
  pub drained : (y : Table) (mem' : ℕ → Rings) (l : ℕ) (z : Connection) → ((k : ℕ) → (k ≡ l → ⊥) → mem' k ≡ mem k) → is_in l (used x.lanes) ≡ true → is_gone (at x l) ≡ true → y.conns ≡ set x.conns l z → used y.lanes ≡ used x.lanes →
      ((c : Conn) → LeftOver cfg (at x l) (mem l) c → LeftOver cfg z (mem' l) c) → Lodges cfg mem' y cs × ((d : Conn) × Memᴰ d cs × (gone d.phase ≡ true) × LeftOver cfg (at x l) (mem l) d)
  drained y mem' l z others m g ec en less-of =
      let r = spent P Q (P' mem' l z others) (Q' mem' l z others) l (λ c s. (over l g c s, left_of cfg (at x l) c g s)) (λ c q. rw (get_or-set_same x.conns l z blank (low l m)) (less-of c q))
      (still mem' l z others) (still_q mem' l z others) (used_separate x.lanes) m h in
      (moved mem' l z others y ec en r.0, r.1)
