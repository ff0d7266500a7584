-- It never comes to a stand, for whoever goes by the rules: each round of a taking and two due texts, one each way, brings a byte, or the end. Assumes nothing.
use Rattle.std.proofs.Common.{◌≡◌, ℕ, zero, suc, ◌+◌, ◌*◌, ◌<◌, ◌≤◌, Bool, true, T, List, [], ◌∷◌, ◌++◌, length, drop, sym, refl, ap, ◌∙◌, subst, ⊎_elim, append_assoc, append-nil, arith, length-append}
use Rattle.std.proofs.lemmas.Bool.{and_parts, and_from, eq-eqb, cases_Bool, cases_lt}
use Rattle.hold.specs.Packet.{Settings}
use Rattle.hold.specs.Conn.{Conn, Phase, Asked, Half, Open, Gone, Last}
use Rattle.hold.specs.World.{Who, L, R, World, start, other, is_open}
use Rattle.hold.specs.Promise.{At, One, lives}
use Rattle.hold.specs.Rules.{Front, is_half}
use Rattle.hold.specs.Self.{missing}
use Rattle.hold.specs.Live.{System, only, Reach, Pair, Brought, Took, AllCame, RulesBring}
use Rattle.hold.proofs.Table.{one_tag}
use Rattle.hold.proofs.Truth.{FactsOf, front_length, Asker}
use Rattle.hold.proofs.Inv.{Inv, apart-at}
use Rattle.hold.proofs.Parts.{no_rest, facts_with, chain_inv, start_inv}

pub front_all : (xs ys : List ℕ) → Front xs ys → length ys ≤ length xs → xs ≡ ys
front_all xs ys (r, e) l = sym (append-nil xs) ∙ ap (λ z. xs ++ z) (sym (no_rest r (omega (arith, length-append xs r, ap length e)))) ∙ e

pub drop-length : (p : ℕ) (xs : List ℕ) → length xs ≤ p + length (drop p xs)
drop-length zero xs = omega arith
drop-length (suc p) [] = omega arith
drop-length (suc p) (x ∷ xs) = omega (arith, drop-length p xs)

pub back : (o : Who) (w : World) (c : Conn) → At (other (other o)) w c → At o w c
back L w c m = m
back R w c m = m

pub forth : (o : Who) (w : World) (c : Conn) → At o w c → At (other (other o)) w c
forth L w c m = m
forth R w c m = m

-- two halves are never one: one that asked is half only if it gave way to a smaller tag
pub both_half : {X : Type 0} (cfg : Settings) (w : World) → Inv cfg w → (o : Who) (c d : Conn) → At o w c → At (other o) w d → One c d → is_half c.phase ≡ true → is_half d.phase ≡ true → X
both_half cfg w i o c d m n one h k = go ((i.linked o c m).caller h) ((i.linked (other o) d n).caller k)
  where
    go : {X : Type 0} → (e : Conn) × At (other o) w e × (e.mine ≡ c.theirs) × Asker e → (e : Conn) × At (other (other o)) w e × (e.mine ≡ d.theirs) × Asker e → X
    go (e, j, q, f) (x, l, r, g) = let a = subst Asker (one_tag _ e d (apart-at w i.tagged (other o)) j n (q ∙ one.0)) f k in
        let b = subst Asker (one_tag _ x c (apart-at w i.tagged o) (back o w x l) m (r ∙ one.1)) g h in absurd (omega (arith, a, b, one.0, one.1))

only_app : {E : Type 0} (f : E → Bool) (xs ys : List E) → only f xs ≡ true → only f ys ≡ true → only f (xs ++ ys) ≡ true
unfolding only
only_app f [] ys h k = k
only_app f (x ∷ xs) ys h k = let (a, b) = and_parts _ _ h in and_from _ _ a (only_app f xs ys b k)

module _ (cfg : Settings) (E : Type 0) (s : System cfg E) where
  inv_of : (es : List E) → T (s.allowed es) → Inv cfg (s.seen es)
  inv_of es ok = chain_inv cfg start (s.seen es) (s.sound es ok) (start_inv cfg)

  reach_reach : (m n : ℕ) (es fs gs : List E) → Reach s m es fs → Reach s n fs gs → Reach s (m + n) es gs
  reach_reach m n es fs gs a b = record {
    by = b.by ++ a.by;
    is = append_assoc b.by a.by es ∙ ap (λ z. b.by ++ z) a.is ∙ b.is;
    moves = only_app _ b.by a.by b.moves a.moves;
    count = omega (arith, length-append b.by a.by, a.count, b.count);
    ok = b.ok;
  }

  reach_le : (m n : ℕ) (es gs : List E) → m ≤ n → Reach s m es gs → Reach s n es gs
  reach_le m n es gs l r = record { by = r.by; is = r.is; moves = r.moves; count = omega (arith, r.count); ok = r.ok }

  pub record Done (n : ℕ) (es : List E) (o : Who) (c d : Conn) : Type 0 where
    pub after : List E
    pub reach : Reach s n es after
    pub c' : Conn
    pub at_c : At o (s.seen after) c'
    pub mine : c'.mine ≡ c.mine
    pub got : c'.got ≡ d.given
    pub ended : d.closed ≡ true → c'.ended ≡ true

  facts_of : (es : List E) → T (s.allowed es) → (o : Who) (c d : Conn) → At o (s.seen es) c → At (other o) (s.seen es) d → c.phase ≡ Open → One c d → FactsOf cfg c d
  facts_of es ok o c d m n e k = let i = inv_of es ok in facts_with cfg (s.seen es) i o c m ((i.linked o c m).open_opened (ap is_open e)) d n k

  module _ (pos : 0 < cfg.room) (b k : ℕ) (bring : (es : List E) (o : Who) (c d : Conn) → Pair s es o c d → Brought s b es o c d) (take : (es : List E) (o : Who) (c d : Conn) → Pair s es o c d → Took s k es o c d) where
    pub record Round (es : List E) (o : Who) (c d : Conn) : Type 0 where
      pub after : List E
      pub reach : Reach s (k + (b + b)) es after
      pub c' : Conn
      pub d' : Conn
      pub pair : Pair s after o c' d'
      pub open_d : d'.phase ≡ Open
      pub mine : c'.mine ≡ c.mine
      pub given : d'.given ≡ d.given
      pub closed : d'.closed ≡ d.closed
      pub longer : length c.got ≤ length c'.got
      pub brings : length c.got < length d.given → length c.got < length c'.got
      pub ends_come : d.closed ≡ true → length d.given ≤ length c.got → (q : ℕ) × (c'.end ≡ Last.At q)

    round : (es : List E) (o : Who) (c d : Conn) → Pair s es o c d → Round es o c d
    round es o c d u = go (take es o c d u)
      where
        go : Took s k es o c d → Round es o c d
        go t = go₂ (bring t.after o t.c' d (record { ok = t.reach.ok; at_c = t.at_c; at_d = t.at_d; open_c = t.phase ∙ u.open_c; live_d = u.live_d; one = (t.theirs ∙ u.one.0, u.one.1 ∙ sym t.mine) }))
          where
            go₂ : Brought s b t.after o t.c' d → Round es o c d
            go₂ v = go₃ (bring v.after (other o) v.d' t.c' (record {
              ok = v.reach.ok;
              at_c = v.at_d;
              at_d = forth o _ t.c' v.at_c;
              open_c = v.heard.phase;
              live_d = rw (t.phase, u.open_c) tt;
              one = (v.heard.theirs, t.theirs ∙ u.one.0 ∙ sym v.heard.mine);
            }))
              where
                one₁ : One t.c' v.d'
                one₁ = (t.theirs ∙ u.one.0 ∙ sym v.heard.mine, v.heard.theirs)

                fc : FactsOf cfg t.c' v.d'
                fc = facts_of v.after v.reach.ok o t.c' v.d' v.at_c v.at_d (t.phase ∙ u.open_c) one₁

                fd : FactsOf cfg v.d' t.c'
                fd = facts_of v.after v.reach.ok (other o) v.d' t.c' v.at_d (forth o _ t.c' v.at_c) v.heard.phase (one₁.1, one₁.0)

                same : v.d'.upto ≡ length t.c'.got
                same = omega (arith, fd.came, v.heard.upto)

                go₃ : Brought s b v.after (other o) v.d' t.c' → Round es o c d
                go₃ x = record {
                  after = x.after;
                  reach = reach_reach k (b + b) _ _ _ t.reach (reach_reach b b _ _ _ v.reach x.reach);
                  c' = x.d';
                  d' = v.d';
                  pair = record { ok = x.reach.ok; at_c = back o _ x.d' x.at_d; at_d = x.at_c; open_c = x.heard.phase; live_d = rw v.heard.phase tt; one = (x.heard.theirs, one₁.1 ∙ sym x.heard.mine) };
                  open_d = v.heard.phase;
                  mine = x.heard.mine ∙ t.mine;
                  given = v.heard.given;
                  closed = v.heard.closed;
                  longer = omega (arith, x.heard.longer, ap length t.got);
                  brings = λ l. omega (arith, x.heard.brings same (omega (arith, ap length v.heard.given, ap length t.got)) (omega (arith, t.taken, ap length t.got)), ap length t.got);
                  ends_come = λ z l. ⊎_elim (λ y. let (q, e) = fc.end_heard (fd.all_came y) in (q, x.heard.ends_stay q e))
                      (λ y. x.heard.ends_come (v.heard.closed ∙ z) y (omega (arith, same, ap length v.heard.given, ap length t.got, front_length _ _ fc.front))) (cases_Bool v.d'.all);
                }

    finish : (es : List E) (o : Who) (c d : Conn) → length d.given ≤ length c.got → Round es o c d → Done (k + (b + b)) es o c d
    finish es o c d l r = record { after = r.after; reach = r.reach; c' = r.c'; at_c = r.pair.at_c; mine = r.mine; got = all ∙ r.given; ended = λ z. told (r.ends_come z l) }
      where
        f : FactsOf cfg r.c' r.d'
        f = facts_of r.after r.reach.ok o r.c' r.d' r.pair.at_c r.pair.at_d r.pair.open_c r.pair.one

        all : r.c'.got ≡ r.d'.given
        all = front_all _ _ f.front (omega (arith, ap length r.given, r.longer))

        told : (q : ℕ) × (r.c'.end ≡ Last.At q) → r.c'.ended ≡ true
        told (q, e) = f.told q e ∙ eq-eqb _ _ ((f.end_true q e).0 ∙ ap length (sym all))

    pub rounds : (m : ℕ) (es : List E) (o : Who) (c d : Conn) → Pair s es o c d → length d.given ≤ length c.got + m → Done ((k + (b + b)) * (m + 1)) es o c d
    rounds zero es o c d u l = let s = finish es o c d (omega arith) (round es o c d u) in record { after = s.after; reach = reach_le _ _ _ _ (omega arith) s.reach; c' = s.c'; at_c = s.at_c; mine = s.mine; got = s.got; ended = s.ended }
    rounds (suc m) es o c d u l = let r = round es o c d u in
        let l' : length r.d'.given ≤ length r.c'.got + m = ⊎_elim (λ h. omega (arith, ap length r.given, r.brings h)) (λ h. omega (arith, ap length r.given, r.longer)) (cases_lt (length c.got) (length d.given)) in
        then r (rounds m r.after o r.c' r.d' r.pair l')
      where
        then : (r : Round es o c d) → Done ((k + (b + b)) * (m + 1)) r.after o r.c' r.d' → Done ((k + (b + b)) * (suc m + 1)) es o c d
        then r s = record {
          after = s.after;
          reach = reach_le _ _ _ _ (grind arith) (reach_reach (k + (b + b)) ((k + (b + b)) * (m + 1)) es r.after s.after r.reach s.reach);
          c' = s.c';
          at_c = s.at_c;
          mine = s.mine ∙ r.mine;
          got = s.got ∙ r.given;
          ended = λ z. s.ended (r.closed ∙ z);
        }

    -- if c is half, it is first opened by d's due text
    begin : (es : List E) (ok : T (s.allowed es)) (o : Who) (c d : Conn) → At o (s.seen es) c → At (other o) (s.seen es) d → One c d → (h j : Phase) → c.phase ≡ h → d.phase ≡ j → T (lives h) → T (lives j) →
        Done (b + (k + (b + b)) * (missing c d + 1)) es o c d
    begin es ok o c d m n one Open j e f _ live = wider (rounds (missing c d) es o c d (record { ok = ok; at_c = m; at_d = n; open_c = e; live_d = rw f live; one = one }) (drop-length (length c.got) d.given))
      where
        wider : Done ((k + (b + b)) * (missing c d + 1)) es o c d → Done (b + (k + (b + b)) * (missing c d + 1)) es o c d
        wider r = record { after = r.after; reach = reach_le _ _ _ _ (omega arith) r.reach; c' = r.c'; at_c = r.at_c; mine = r.mine; got = r.got; ended = r.ended }
    begin es ok o c d m n one Half Open e f _ _ = go (bring es (other o) d c (record { ok = ok; at_c = n; at_d = forth o _ c m; open_c = f; live_d = rw e tt; one = (one.1, one.0) }))
      where
        go : Brought s b es (other o) d c → Done (b + (k + (b + b)) * (missing c d + 1)) es o c d
        go v = then (rounds (missing c d) v.after o v.d' d (record { ok = v.reach.ok; at_c = back o _ v.d' v.at_d; at_d = v.at_c; open_c = v.heard.phase; live_d = rw f tt; one = (v.heard.theirs, one.1 ∙ sym v.heard.mine) })
            (omega (arith, v.heard.longer, drop-length (length c.got) d.given)))
          where
            then : Done ((k + (b + b)) * (missing c d + 1)) v.after o v.d' d → Done (b + (k + (b + b)) * (missing c d + 1)) es o c d
            then r = record { after = r.after; reach = reach_reach b _ es v.after r.after v.reach r.reach; c' = r.c'; at_c = r.at_c; mine = r.mine ∙ v.heard.mine; got = r.got; ended = r.ended }
    begin es ok o c d m n one Half Half e f _ _ = both_half cfg (s.seen es) (inv_of es ok) o c d m n one (ap is_half e) (ap is_half f)
    begin es ok o c d m n one Half Asked e f _ z = absurd z
    begin es ok o c d m n one Half Gone e f _ z = absurd z
    begin es ok o c d m n one Asked j e f z _ = absurd z
    begin es ok o c d m n one Gone j e f z _ = absurd z

  came : (n : ℕ) (es : List E) (o : Who) (c d : Conn) → Done n es o c d → AllCame s n es o c d
  came n es o c d r = (
    r.reach.by,
    rw r.reach.is r.reach.ok,
    r.reach.moves,
    r.reach.count,
    λ x l q. let e = one_tag _ x r.c' (apart-at _ (inv_of r.after r.reach.ok).tagged o) (rw r.reach.is at l) r.at_c (q ∙ sym r.mine) in (ap (λ z. z.got) e ∙ r.got, λ z. ap (λ y. y.ended) e ∙ r.ended z),
  )

pub rules_bring_lem : (E : Type 0) → RulesBring E
rules_bring_lem E cfg pos s b k bring take es ok o c d m n u v one = came cfg E s _ es o c d (then (begin cfg E s pos b k bring take es ok o c d m n one c.phase d.phase refl refl u v))
  where
    twice : b + (k + (b + b)) * (missing c d + 1) ≡ (k + 2 * b) * (missing c d + 1) + b
    twice = let e : k + (b + b) ≡ k + 2 * b = omega arith in rw e (omega arith)

    then : Done cfg E s (b + (k + (b + b)) * (missing c d + 1)) es o c d → Done cfg E s ((k + 2 * b) * (missing c d + 1) + b) es o c d
    then = subst (λ n. Done cfg E s n es o c d) twice
