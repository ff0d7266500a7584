-- A change in the table is a change of the model's end, and that is a step of the world.
use Rattle.std.proofs.Common.{◌≡◌, ℕ, ◌<◌, true, false, not, ◌||◌, eqb, List, [], ◌∷◌, length, set, Some, None, Ok, Err, Result, sym, refl, ap, ◌∙◌, subst, arith}
use Rattle.std.specs.Result.{result_ok}
use Rattle.std.proofs.lemmas.List.{get_or-set_same, length-set}
use Rattle.std.proofs.lemmas.Bool.{and_parts, cond-false, eqb-true, ne_eqb, or_from}
use Rattle.hold.specs.Conn.{Asked, Conn, Gone, in_phase, new}
use Rattle.hold.specs.Packet as m
use Rattle.hold.specs.World.{End, Ev, Found, L, NotThere, Opens, R, There, Who, World, added, by_tag, by_theirs, change, changed, end, is_in, put, start, step}
use Rattle.packet.specs.Agreed.{cfg_of}
use Rattle.connection.specs.Fields.{blank, has_tag}
use Rattle.connection.specs.Stand.{ActsAs, Fresh, Rings, Stand1}
use Rattle.connection.specs.declared.connection.Connection.{Connection}
use Rattle.lanes.specs.Used.{used, without}
use Rattle.lanes.proofs.Orders.{used_separate}
use Rattle.table.specs.Grows.{Grown}
use Rattle.table.specs.Housed.{Housed, none}
use Rattle.table.specs.Lodges.{InLane, LeftIn, Lodges}
use Rattle.table.specs.Search.{at, finds, is_gone}
use Rattle.table.specs.declared.Table.{Table}
use Rattle.table.specs.declared.Wanted.TheVariants.{Peer, Tag}
use Rattle.table.proofs.Housing.{is_there_lem, lane_low, not_there, seek_finds}
use Rattle.table.proofs.Lodging.{by_peer, by_tag_lem, changed-lane, grown, removed, same-gone, unchanged_all}
use Rattle.endpoint.specs.Calls.{Joined, Numbered}
use Rattle.endpoint.specs.declared.Refusal.{Refusal}
use Rattle.endpoint.specs.Stands.{Sized, Stands, cfg, lent}
use Rattle.endpoint.specs.Steps.{After, Steps}
use Rattle.endpoint.specs.declared.Endpoint.{Endpoint}
use Rattle.endpoint.proofs.Memory.{Beside}

-- only here it is asked which end it is
pub after-put : (y : Endpoint) (out : List m.Packet) (o : Who) (e : End) (ts : List ℕ) (w : World) → Stands y e → After y out o w (put o e out ts w)
after-put y out L e ts w s = record { stands = s; sends = refl; far = refl; back = refl }
after-put y out R e ts w s = record { stands = s; sends = refl; far = refl; back = refl }

pub after_same : (y : Endpoint) (o : Who) (w : World) → Stands y (end o w) → After y [] o w w
after_same y o w s = record { stands = s; sends = refl; far = refl; back = refl }

pub after_out : (y : Endpoint) (out : List m.Packet) (o : Who) (e : End) (found : List m.Packet) (w : World) → out ≡ found → Stands y e → After y out o w (put o e found [] w)
after_out y out o e found w q s = subst (λ (ps : List m.Packet). After y out o w (put o e ps [] w)) q (after-put y out o e [] w s)

pub stands_by : {l : ℕ} (x y : Endpoint) (e : End) (ds : List Conn) → Beside l x y → Stands x e → Lodges (cfg x) (lent y) y.table ds → Stands y (record { conns = ds; listens = e.listens })
stands_by x y e ds b s t = record { listens = b.listens ∙ s.listens; sized = b.sized s.sized; table = subst (λ (k : m.Settings). Lodges k (lent y) y.table ds) (ap cfg_of (sym b.settings)) t }

module _ (x : Endpoint) (e : End) (s : Stands x e) where
  module _ (l : ℕ) (y : Endpoint) (b : Beside l x y) where
    -- one connection changed
    pub changed_some : (tag : ℕ) (z : Connection) (f : Conn → Conn) → y.table.conns ≡ set x.table.conns l z → used y.table.lanes ≡ used x.table.lanes →
        Some l ≡ finds (Tag tag) x.table → (Sized x → ActsAs (cfg x) (at x.table l) (lent x l) z (lent y l) f) → Stands y (changed tag f e)
    changed_some tag z f ec en h acts = stands_by x y e _ b s (changed-lane (cfg x) (lent x) x.table s.table (lent y) l z b.others y.table ec tag f en h (acts s.sized))

    -- one connection more
    pub one_more : (z : Connection) (c : Conn) → Grown x.table y.table z (Some l) → (Sized x → Fresh (lent y l)) → ((mem : Rings) → Fresh mem → Stand1 (cfg x) z mem c) → Stands y (added c e)
    one_more z c g fresh st = stands_by x y e _ b s (grown (cfg x) (lent x) x.table s.table y.table (lent y) l z c g b.others (st (lent y l) (fresh s.sized)))

  -- nobody has the tag
  pub changed_none : (tag : ℕ) (f : Conn → Conn) → None ≡ finds (Tag tag) x.table → Stands x (changed tag f e)
  changed_none tag f h = record { listens = s.listens; sized = s.sized; table = unchanged_all (cfg x) (lent x) x.table s.table tag f h }

  pub missing : (tag : ℕ) → None ≡ finds (Tag tag) x.table → by_tag tag e.conns ≡ NotThere
  missing tag h = not_there (InLane (cfg x) (lent x) x.table.conns) (finds (Tag tag) x.table) (by_tag tag e.conns) h (by_tag_lem (cfg x) (lent x) x.table s.table tag)

  pub no_peer : (tag : ℕ) → None ≡ finds (Peer tag) x.table → by_theirs tag e.conns ≡ NotThere
  no_peer tag h = not_there (InLane (cfg x) (lent x) x.table.conns) (finds (Peer tag) x.table) (by_theirs tag e.conns) h (by_peer (cfg x) (lent x) x.table s.table tag)

  pub peer : (tag l : ℕ) → Some l ≡ finds (Peer tag) x.table → (c : Conn) × (by_theirs tag e.conns ≡ There c) × Stand1 (cfg x) (at x.table l) (lent x l) c
  peer tag l h = is_there_lem (InLane (cfg x) (lent x) x.table.conns) (finds (Peer tag) x.table) (by_theirs tag e.conns) l h (by_peer (cfg x) (lent x) x.table s.table tag)

-- what the model found is what stands in a lane
pub record Is (k : m.Settings) (x : Connection) (mem : Rings) (tag : ℕ) (f : Found) : Type 0 where
  pub c : Conn
  pub there : f ≡ There c
  pub stand : Stand1 k x mem c
  pub mine : c.mine ≡ tag

pub finding : (x : Endpoint) (e : End) → Stands x e → (tag l : ℕ) → Some l ≡ finds (Tag tag) x.table → Is (cfg x) (at x.table l) (lent x l) tag (by_tag tag e.conns)
finding x e s tag l h =
    let f = is_there_lem (InLane (cfg x) (lent x) x.table.conns) (finds (Tag tag) x.table) (by_tag tag e.conns) l h (by_tag_lem (cfg x) (lent x) x.table s.table tag) in
    let b = (seek_finds (λ k. has_tag tag (at x.table k).pairing) l (used x.table.lanes) h).1 in
    let q = (at x.table l).pairing in
    record {
      c = f.0;
      there = f.1;
      stand = f.2;
      mine = ap (λ (d : Conn). d.mine) (sym f.2.is) ∙ eqb-true q.mine tag (and_parts (eqb q.mine tag) (not (is_gone (at x.table l))) b).0;
    }

-- whatever the model finds is what stands there
pub found_as : (x : Endpoint) (e : End) (s : Stands x e) (tag l : ℕ) → Some l ≡ finds (Tag tag) x.table → (d : Conn) → by_tag tag e.conns ≡ There d → Stand1 (cfg x) (at x.table l) (lent x l) d
found_as x e s tag l h d q =
    let f = finding x e s tag l h in
    let a : There f.c ≡ There d = sym f.there ∙ q in
    let b : f.c ≡ d = cc in
    subst (λ (c : Conn). Stand1 (cfg x) (at x.table l) (lent x l) c) b f.stand

-- a number by what the model finds
module _ (x : Endpoint) (tag : ℕ) (n : Found → ℕ) where
  pub numbered_none : None ≡ finds (Tag tag) x.table → Numbered x tag n (n NotThere)
  numbered_none h e s = ap n (missing x e s tag h)

  pub numbered_some : (l k : ℕ) → Some l ≡ finds (Tag tag) x.table → ((c : Conn) → Stand1 (cfg x) (at x.table l) (lent x l) c → n (There c) ≡ k) → Numbered x tag n k
  numbered_some l k h q e s = let f = finding x e s tag l h in ap n f.there ∙ q f.c f.stand

-- a connection joined, by what is left of the refusal
pub joined : (x y : Endpoint) (z : Connection) {u : Unit {0}} (r : Result (Unit {0}) Refusal) → Some u ≡ result_ok r → Joined x y z r → Joined x y z (Ok u)
joined x y z (Ok u) e j = j
joined x y z (Err f) e j = cc

empty : (k : m.Settings) (mem : ℕ → Rings) (t : Table) → used t.lanes ≡ [] → Lodges k mem t []
empty k mem t e = subst (λ ls. Housed (InLane k mem t.conns) (LeftIn k mem t.conns) ls []) (sym e) none

pub stands_new : (x : Endpoint) → x.listens ≡ false → Sized x → used x.table.lanes ≡ [] → (o : Who) → Stands x (end o start)
stands_new x el sz eu L = record { listens = el; sized = sz; table = empty (cfg x) (lent x) x.table eu }
stands_new x el sz eu R = record { listens = el; sized = sz; table = empty (cfg x) (lent x) x.table eu }

-- a connection is opened
pub opens_new : (x y : Endpoint) (o : Who) (w : World) (t : ℕ) → Stands y (added (new Asked t 0) (end o w)) →
    is_in t w.drawn ≡ false → (t ≡ 0 → ⊥) → (p : m.Packet) → p ≡ m.bare m.Ask t 0 → After y (p ∷ []) o w (step (cfg x) (Opens o t) w)
opens_new x y o w t more d n0 p e =
    subst (λ (v : World). After y (p ∷ []) o w v) (sym (cond-false (is_in t w.drawn || eqb t 0) w (put o (added (new Asked t 0) (end o w)) (m.bare m.Ask t 0 ∷ []) (t ∷ []) w) (or_from (is_in t w.drawn) (eqb t 0) d (ne_eqb t 0 n0))))
    (subst (λ (r : m.Packet). After y (p ∷ []) o w (put o (added (new Asked t 0) (end o w)) (r ∷ []) (t ∷ []) w)) e
    (after-put y (p ∷ []) o (added (new Asked t 0) (end o w)) (t ∷ []) w more))

-- a call that changes the connection of a tag, and sends nothing
module _ (x y : Endpoint) (l : ℕ) (b : Beside l x y) (tag : ℕ) (ev : Who → Ev) (f : Conn → Conn) (is : (o : Who) (w : World) → step (cfg x) (ev o) w ≡ put o (changed tag f (end o w)) [] [] w) where
  pub steps_some : (z : Connection) → y.table.conns ≡ set x.table.conns l z → used y.table.lanes ≡ used x.table.lanes → Some l ≡ finds (Tag tag) x.table → (Sized x → ActsAs (cfg x) (at x.table l) (lent x l) z (lent y l) f) → Steps x y [] ev
  steps_some z ec en h acts = record {
    settings = b.settings;
    world = λ o w s. subst (λ (v : World). After y [] o w v) (sym (is o w)) (after-put y [] o (changed tag f (end o w)) [] w (changed_some x (end o w) s l y b tag z f ec en h acts));
  }

-- a table with another connection in a lane
abbrev pub with_conn : Table → ℕ → Connection → Table
with_conn t l z = record { conns = set t.conns l z; lanes = t.lanes; sized = length-set t.conns l z ∙ t.sized }

-- the connection of a tag is gone, and its lane is free
module _ (x y : Endpoint) (l : ℕ) (b : Beside l x y) (em : lent y ≡ lent x) (tag : ℕ) (z : Connection) (ec : y.table.conns ≡ set x.table.conns l z) (en : used y.table.lanes ≡ without l (used x.table.lanes))
    (h : Some l ≡ finds (Tag tag) x.table) (acts : ActsAs (cfg x) (at x.table l) (lent x l) z (lent x l) (in_phase Gone)) where
  abbrev middle : Table
  middle = with_conn x.table l z

  pub ended : (e : End) → Stands x e → Stands y (changed tag (in_phase Gone) e)
  ended e s =
      let f = finding x e s tag l h in
      let lt : l < length x.table.conns = omega (arith, x.table.sized, lane_low l (used x.table.lanes) (used_separate x.table.lanes) (seek_finds (λ k. has_tag tag (at x.table k).pairing) l (used x.table.lanes) h).0) in
      let g : is_gone (at middle l) ≡ true = ap is_gone (get_or-set_same x.table.conns l z blank lt) ∙ same-gone (cfg x) z (in_phase Gone f.c) (acts f.c f.stand) in
      stands_by x y e (change tag (in_phase Gone) e.conns) b s
      (subst (λ (mem : ℕ → Rings). Lodges (cfg x) mem y.table (change tag (in_phase Gone) e.conns)) (sym em)
      (removed (cfg x) (lent x) middle (changed-lane (cfg x) (lent x) x.table s.table (lent x) l z (λ k ne. refl) middle refl tag (in_phase Gone) refl h acts) y.table l g ec en))
