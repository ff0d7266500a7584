-- The rounds bring over all that was given, as users see it.
use Rattle.std.proofs.Common.{◌≡◌, ℕ, ◌+◌, ◌-◌, ◌*◌, ◌^◌, ◌<◌, ◌≤◌, min, true, false, not, T, List, length, Some, None, Ok, Err, Option, Result, sym, refl, ap, ◌∙◌, subst, arith, length-drop}
use mathlib.Core.List.{Memᴰ}
use Rattle.hold.specs.Conn.{Asked, Conn, Gone, Half, Open, Phase}
use Rattle.hold.specs.Drive.{Both, HasAll, drive, left}
use Rattle.hold.specs.Packet as m
use Rattle.hold.specs.Promise.{At, lives}
use Rattle.hold.specs.Self.{made, missing}
use Rattle.hold.specs.World.{Ev, Found, L, NotThere, There, Who, World, by_tag, end, gone, is_asked, other, world}
use Rattle.hold.proofs.Bricks.{false_true}
use Rattle.hold.proofs.Drive.{drive_brings_lem}
use Rattle.hold.proofs.Inv.{apart-at, inv}
use Rattle.hold.proofs.SelfRounds.{left-most}
use Rattle.hold.proofs.Table.{by_tag_mem, one_tag}
use Rattle.packet.specs.Sizes.{capacity}
use Rattle.lent.specs.Sending.{most}
use Rattle.connection.specs.Stand.{Rings}
use Rattle.table.specs.Lodges.{InLane, Lodges}
use Rattle.table.specs.Search.{finds}
use Rattle.table.specs.declared.Table.{Table}
use Rattle.table.specs.declared.Wanted.TheVariants.{Tag}
use Rattle.table.proofs.Housing.{Agree}
use Rattle.table.proofs.Lodging.{by_tag_lem}
use Rattle.ledger.specs.Books.{accounts, partner_of, peer_of, view_of}
use Rattle.ledger.specs.Sentence.{Account}
use Rattle.ledger.specs.Tells.{Tells}
use Rattle.ledger.specs.declared.record.View.{View}
use Rattle.ledger.proofs.Sentences.{conn_of_lem}
use Rattle.party.specs.declared.Fault.{Fault}
use Rattle.simulation.specs.Carry.{Brought, Carried, Driven, Seen, driven_to}
use Rattle.simulation.specs.Shows.{Runs, Shows, party_of}
use Rattle.simulation.specs.declared.pair.Pair.{Pair}
use Rattle.simulation.proofs.Moving.{partner_is, peer_parts}

cfg-at : (cfg : m.Settings) (p : Pair) (w : World) → Shows cfg p w → 0 < cfg.room
cfg-at cfg p w s = let k = p.halves.left.party.end.settings.some in omega (arith, k, ap (λ z. z.room) (s.settings L))

-- what the code holds was given within its limit
given_small : (cfg : m.Settings) (mem : ℕ → Rings) (x : Table) (cs : List Conn) → Lodges cfg mem x cs → (t : ℕ) (c : Conn) → by_tag t cs ≡ There c → length c.given ≤ most
given_small cfg mem x cs h t c e = go (finds (Tag t) x) (subst (Agree (InLane cfg mem x.conns) (finds (Tag t) x)) e (by_tag_lem cfg mem x h t))
  where
    go : (o : Option ℕ) → Agree (InLane cfg mem x.conns) o (There c) → length c.given ≤ most
    go None a = absurd a
    go (Some l) a = omega (arith, a.waits.small, ap (λ d. length d.given) a.is)

lives_of : (h : Phase) → gone h ≡ false → not (is_asked h) ≡ true → T (lives h)
lives_of Asked g a = false_true _ refl a
lives_of Half g a = tt
lives_of Open g a = tt
lives_of Gone g a = false_true _ g refl

-- a connection that is seen
abbrev FoundAs : List Conn → ℕ → View → Type 0
FoundAs cs t v = (c : Conn) × (by_tag t cs ≡ There c) × (partner_of v ≡ peer_of c) × (v.given ≡ length c.given) × (v.arrived ≡ length c.got)

found_as : (cs : List Conn) (t : ℕ) (v : View) → Some v ≡ view_of (by_tag t cs) → FoundAs cs t v
found_as cs t v e = go (by_tag t cs) refl e
  where
    go : (f : Found) → by_tag t cs ≡ f → Some v ≡ view_of f → FoundAs cs t v
    go NotThere q i = absurd (let z : ◌≡◌ {A = ℕ} 0 1 = cc in omega arith)
    go (There c) q i = let g : v.given ≡ length c.given = cc in let r : v.arrived ≡ length c.got = cc in (c, q, partner_is v c i, g, r)

module _ (p q : Pair) (o : Who) (t u n : ℕ) (vc vd : View) (see-c : Seen p o t (Some vc)) (see-d : Seen p (other o) u (Some vd)) (sc : partner_of vc ≡ Some u) (sd : partner_of vd ≡ Some t)
    (rounds : n ≡ min ((vd.given - vc.arrived) + 2) (2 ^ 64 - 1)) where
  module _ (cfg : m.Settings) (es : List Ev) (s : Shows cfg p (world cfg es)) (c d : Conn) (fc : by_tag t (end o (world cfg es)).conns ≡ There c) (fd : by_tag u (end (other o) (world cfg es)).conns ≡ There d)
      (pc : partner_of vc ≡ peer_of c) (rc : vc.arrived ≡ length c.got) (pd : partner_of vd ≡ peer_of d) (gd : vd.given ≡ length d.given) where
    mine_c : c.mine ≡ t
    mine_c = (by_tag_mem t _ c fc).1

    mine_d : d.mine ≡ u
    mine_d = (by_tag_mem u _ d fd).1

    met_c : (not (is_asked c.phase) ≡ true) × (c.theirs ≡ u)
    met_c = peer_parts _ _ _ (sym pc ∙ sc)

    met_d : (not (is_asked d.phase) ≡ true) × (d.theirs ≡ t)
    met_d = peer_parts _ _ _ (sym pd ∙ sd)

    both : Both cfg es o c d
    both = record {
      at_c = (by_tag_mem t _ c fc).0;
      at_d = (by_tag_mem u _ d fd).0;
      live_c = lives_of c.phase (by_tag_mem t _ c fc).2 met_c.0;
      live_d = lives_of d.phase (by_tag_mem u _ d fd).2 met_d.0;
      one = (met_c.1 ∙ sym mine_d, met_d.1 ∙ sym mine_c);
    }

    enough : left c d ≤ n
    enough = omega (arith, left-most c d, length-drop (length c.got) d.given, rounds, gd, rc, given_small _ _ (party_of (other o) p).end.table _ (s.plays (other o)).stands.table u d fd)

    brings : (length (made cfg es (drive cfg es n o t u capacity)) ≤ 6 * missing c d + 12) × ((x : Conn) → At o (world cfg (driven_to cfg es n o t u)) x → x.mine ≡ c.mine → HasAll x d)
    brings = subst (λ z. (length (made cfg es (drive cfg es n o t z capacity)) ≤ 6 * missing c d + 12) × ((x : Conn) → At o (world cfg (driven_to cfg es n o t z)) x → x.mine ≡ c.mine → HasAll x d)) mine_d
        (subst (λ z. (length (made cfg es (drive cfg es n o z d.mine capacity)) ≤ 6 * missing c d + 12) × ((x : Conn) → At o (world cfg (driven_to cfg es n o z d.mine)) x → x.mine ≡ c.mine → HasAll x d)) mine_c
        (drive_brings_lem cfg (cfg-at cfg p (world cfg es) s) es o c d both capacity n (omega arith) enough))

    -- an account of a connection with a tag tells of the one that was found
    tells_of : (who : Who) (gs : List Ev) (r : Pair) → Shows cfg r (world cfg gs) → (a : Account) (f : Conn) → Memᴰ a (accounts (party_of who r).book) → Memᴰ f (end who (world cfg gs)).conns → a.tag ≡ f.mine → Tells a f
    tells_of who gs r h a f i k e = go (conn_of_lem _ _ (h.plays who).keeps.tell a i)
      where
        go : (x : Conn) × Memᴰ x (end who (world cfg gs)).conns × Tells a x → Tells a f
        go (x, j, g) = subst (Tells a) (one_tag _ x f (apart-at _ (inv cfg gs).tagged who) j k (sym g.tag ∙ e)) g

    seen_so : (k : ℕ) → Shows cfg q (world cfg (driven_to cfg es n o t u)) → k ≡ min (2 ^ 64 - 1) (length (made cfg es (drive cfg es n o t u capacity))) →
        Brought (accounts (party_of o p).book) (accounts (party_of (other o) p).book) (accounts (party_of o q).book) t k
    seen_so k h e a b x ma mb mx ta tx one = go (conn_of_lem _ _ (h.plays o).keeps.tell x mx)
      where
        tc : Tells a c
        tc = tells_of o es p s a c ma both.at_c (ta ∙ sym mine_c)

        td : Tells b d
        td = tells_of (other o) es p s b d mb both.at_d (sym one.0 ∙ tc.peer ∙ met_c.1 ∙ sym mine_d)

        go : (y : Conn) × Memᴰ y (end o (world cfg (driven_to cfg es n o t u))).conns × Tells x y → (k ≤ 6 * (length b.given - a.arrived) + 12) × (x.arrived ≡ length b.given) × (b.closed ≡ true → x.told ≡ true)
        go (y, my, g) = let (all, end-too) = brings.1 y my (sym g.tag ∙ tx ∙ sym mine_c) in (
          omega (arith, e, brings.0, length-drop (length c.got) d.given, ap length td.given, tc.arrived),
          g.arrived ∙ ap length all ∙ sym (ap length td.given),
          λ z. g.told ∙ end-too (sym td.closed ∙ z),
        )

  pub carried : (r : Result ℕ Fault) → Driven p q n o t u r → Carried p q o t r
  carried (Err f) h = h
  carried (Ok k) h = (λ cfg es s. (made cfg es (drive cfg es n o t u capacity), (h cfg es s).0), runs)
    where
      runs : Runs p → Brought (accounts (party_of o p).book) (accounts (party_of (other o) p).book) (accounts (party_of o q).book) t k
      runs (cfg, es, s) = go (found_as _ t vc (see-c cfg (world cfg es) s)) (found_as _ u vd (see-d cfg (world cfg es) s))
        where
          go : FoundAs (end o (world cfg es)).conns t vc → FoundAs (end (other o) (world cfg es)).conns u vd → Brought (accounts (party_of o p).book) (accounts (party_of (other o) p).book) (accounts (party_of o q).book) t k
          go (c, fc, pc, gc, rc) (d, fd, pd, gd, rd) = let (z, e) = h cfg es s in seen_so cfg es s c d fc fd pc rc pd gd k z e

pub seen_there : (p : Pair) (o r : Who) (t : ℕ) (v : Option View) → r ≡ o → Seen p r t v → Seen p o t v
seen_there p o r t v e h = subst (λ z. Seen p z t v) e h
