-- Connections that are gone and have a lane still.
use Rattle.std.proofs.Common.{◌≡◌, ℕ, ◌<◌, true, eqb, List, [], length, get_or, set, is_some, Some, None, Option, ◌⊎◌, inl, inr, ⊎_elim, refl, sym, ap, ◌∙◌, subst, arith}
use mathlib.Core.List.{Memᴰ}
use Rattle.std.proofs.lemmas.List.{get_or-set_same}
use Rattle.std.proofs.lemmas.Bool.{and_parts, eqb-true, or_left, or_right}
use Rattle.hold.specs.Conn.{Conn, takes}
use Rattle.hold.specs.World.{End, Takes, changed, end, gone}
use Rattle.connection.specs.Fields.{blank}
use Rattle.connection.specs.Stand.{Drained, LeftOver, Rings}
use Rattle.connection.specs.declared.connection.Connection.{Connection}
use Rattle.lanes.specs.Used.{is_in, used, without}
use Rattle.lanes.proofs.Orders.{used_separate}
use Rattle.table.specs.Lodges.{Lodges}
use Rattle.table.specs.Search.{at, finds, is_gone, is_there, lane_of, meets, or_else}
use Rattle.table.specs.declared.Wanted.TheVariants.{Gone, Tag}
use Rattle.table.proofs.Housing.{lane_low, seek_finds}
use Rattle.table.proofs.Lodging.{drained, removed}
use Rattle.endpoint.specs.Calls.{TookLeft}
use Rattle.endpoint.specs.Stands.{Stands, cfg, lent}
use Rattle.endpoint.specs.Steps.{Steps}
use Rattle.endpoint.specs.declared.Endpoint.{Endpoint}
use Rattle.endpoint.proofs.Memory.{Beside}
use Rattle.endpoint.proofs.Ends.{after-put, changed_none, stands_by, with_conn}

-- a lane that was found has the connection with the tag, or one that is gone and had it
module _ (x : Endpoint) (tag l : ℕ) (h : Some l ≡ lane_of tag x.table) where
  pub either : (Some l ≡ finds (Tag tag) x.table) ⊎ ((None ≡ finds (Tag tag) x.table) × (Some l ≡ finds (Gone tag) x.table))
  either = cases (finds (Tag tag) x.table) (finds (Gone tag) x.table) h
    where
      cases : (a b : Option ℕ) → Some l ≡ or_else a b → (Some l ≡ a) ⊎ ((None ≡ a) × (Some l ≡ b))
      cases (Some k) b e = inl e
      cases None b e = inr (refl, e)

  pub there : is_there tag x.table ≡ true
  there = ⊎_elim (λ q. or_left (is_some (finds (Tag tag) x.table)) (is_some (finds (Gone tag) x.table)) (ap is_some (sym q)))
      (λ q. or_right (is_some (finds (Tag tag) x.table)) (is_some (finds (Gone tag) x.table)) (ap is_some (sym q.1))) either

module _ (x : Endpoint) (tag l : ℕ) (no : None ≡ finds (Tag tag) x.table) (h : Some l ≡ finds (Gone tag) x.table) where
  -- the lane is in use, and its connection is gone and had the tag
  found : (is_in l (used x.table.lanes) ≡ true) × (meets (Gone tag) (at x.table l) ≡ true)
  found = seek_finds (λ k. meets (Gone tag) (at x.table k)) l (used x.table.lanes) h

  over : is_gone (at x.table l) ≡ true
  over = (and_parts (is_gone (at x.table l)) (eqb (at x.table l).pairing.mine tag) found.1).0

  named : (at x.table l).pairing.mine ≡ tag
  named = eqb-true (at x.table l).pairing.mine tag (and_parts (is_gone (at x.table l)) (eqb (at x.table l).pairing.mine tag) found.1).1

  here_in : (z : Connection) → get_or (set x.table.conns l z) l blank ≡ z
  here_in z = get_or-set_same x.table.conns l z blank (let q : l < length x.table.conns = omega (arith, x.table.sized, lane_low l (used x.table.lanes) (used_separate x.table.lanes) found.0) in q)

  -- the lane is let go
  pub let_go : (y : Endpoint) → Beside l x y → lent y ≡ lent x → (z : Connection) → ((c : Conn) → LeftOver (cfg x) (at x.table l) (lent x l) c → LeftOver (cfg x) z (lent x l) c) →
      y.table.conns ≡ set x.table.conns l z → used y.table.lanes ≡ without l (used x.table.lanes) → (e : End) → Stands x e → Stands y e
  let_go y b em z left ec en e s =
      let t = with_conn x.table l z in
      let r = drained (cfg x) (lent x) x.table s.table t (lent x) l z (λ k ne. refl) found.0 over refl refl left in
      let g : is_gone (at t l) ≡ true = ap is_gone (here_in z) ∙ (left r.1.0 r.1.3).phase in
      stands_by x y e e.conns b s (subst (λ (mem : ℕ → Rings). Lodges (cfg x) mem y.table e.conns) (sym em) (removed (cfg x) (lent x) t r.0 y.table l g ec en))

  -- more is taken of what is left
  module _ (y : Endpoint) (b : Beside l x y) (z : Connection) (ec : y.table.conns ≡ set x.table.conns l z) (en : used y.table.lanes ≡ used x.table.lanes)
      (before out : List ℕ) (n : ℕ) (took : (c : Conn) → LeftOver (cfg x) (at x.table l) (lent x l) c → Drained (cfg x) (at x.table l) z (lent y l) c before out n) where
    spent : (e : End) (s : Stands x e) → Lodges (cfg x) (lent y) y.table e.conns × ((d : Conn) × Memᴰ d e.conns × (gone d.phase ≡ true) × LeftOver (cfg x) (at x.table l) (lent x l) d)
    spent e s = drained (cfg x) (lent x) x.table s.table y.table (lent y) l z b.others found.0 over ec en (λ c q. (took c q).left)

    pub takes-steps : Steps x y [] (λ o. Takes o tag (length before))
    takes-steps = record {
      settings = b.settings;
      world = λ o w s. let e = changed tag (takes (length before)) (end o w) in
          after-put y [] o e [] w (stands_by x y e e.conns b (changed_none x (end o w) s tag (takes (length before)) no) (spent e (changed_none x (end o w) s tag (takes (length before)) no)).0);
    }

    here : at y.table l ≡ z
    here = ap (λ (xs : List Connection). get_or xs l blank) ec ∙ here_in z

    pub takes-left : (e : End) → Stands x e → TookLeft x y tag before out n e
    takes-left e s = let r = (spent e s).1 in record {
      lane = l;
      found = h;
      conn = r.0;
      there = r.1;
      gone = r.2;
      mine = sym r.3.mine ∙ named;
      took = subst (λ (k : Connection). Drained (cfg x) (at x.table l) k (lent y l) r.0 before out n) (sym here) (took r.0 r.3);
    }
