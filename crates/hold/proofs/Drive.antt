-- Rounds as long as one has something to say bring over all that was given to it. Assumes nothing.
use Rattle.std.proofs.Common.{◌≡◌, ℕ, zero, suc, ◌+◌, ◌*◌, ◌<◌, ◌≤◌, true, false, T, ltb, List, [], ◌++◌, length, sym, refl, ap, ◌∙◌, subst, ⊎_elim, arith}
use Rattle.std.proofs.lemmas.Bool.Decides.{nat_tests}
use Rattle.std.proofs.lemmas.Bool.{cond-true, cond-false, ltb-false, cases_Bool}
use Rattle.hold.specs.Packet.{Settings}
use Rattle.hold.specs.Conn.{Conn, Phase, Asked, Half, Open, Gone}
use Rattle.hold.specs.World.{Who, Ev, other, is_open, world}
use Rattle.hold.specs.Promise.{At, lives}
use Rattle.hold.specs.Code.{owes}
use Rattle.hold.specs.Self.{Self, speaks, made, missing, NoStandSelf}
use Rattle.hold.specs.Drive.{Both, round_moves, left, Nearer, TakeFrees, HasAll, SilentHas, speaks_in, drive, DriveBrings}
use Rattle.hold.proofs.Bricks.{false_true}
use Rattle.hold.proofs.Table.{one_tag}
use Rattle.hold.proofs.Truth.{FactsOf}
use Rattle.hold.proofs.Inv.{inv, apart-at}
use Rattle.hold.proofs.Parts.{in_room}
use Rattle.hold.proofs.Live.{front_all}
use Rattle.hold.proofs.SelfMoves.{Pair, swap, pair_facts, finds, Reach, reach_none, reach_reach, reach_le}
use Rattle.hold.proofs.SelfRounds.{pair_of, left_some, left-most, round_falls}

pub take_frees : TakeFrees
take_frees cfg pos es o c m k = (λ l. omega (arith, l, (in_room cfg es o c m).1), λ l. omega (arith, l, pos))

silent_open : (d : Conn) (h : Phase) → T (lives h) → speaks d h ≡ false → (is_open h ≡ true) × (owes d ≡ false)
silent_open d Asked t w = absurd t
silent_open d Half t w = false_true _ w refl
silent_open d Open t w = (refl, w)
silent_open d Gone t w = absurd t

pub silent_has : SilentHas
silent_has cfg es o c d b w = (front_all _ _ fc.front (omega (arith, fd.came, ltb-false _ _ none)), λ z. fd.all_came (said z))
  where
    u : Pair cfg es o (other o) c d
    u = pair_of cfg es o c d b

    fc : FactsOf cfg c d
    fc = pair_facts cfg es o (other o) c d u

    fd : FactsOf cfg d c
    fd = pair_facts cfg es (other o) o d c (swap cfg es o (other o) c d u)

    none : ltb d.upto (length d.given) ≡ false
    none = let (h, v) = silent_open d d.phase b.live_d w in grind (arith, nat_tests)

    said : d.closed ≡ true → d.all ≡ true
    said z = let (h, v) = silent_open d d.phase b.live_d w in grind (arith, nat_tests)

-- all came, after these events
record Done (cfg : Settings) (n : ℕ) (es : List Ev) (ms : List Self) (o : Who) (c d : Conn) : Type 0 where
  pub after : List Ev
  pub reach : Reach cfg n es ms after
  pub c' : Conn
  pub at_c : At o (world cfg after) c'
  pub mine : c'.mine ≡ c.mine
  pub has : HasAll c' d

module _ (cfg : Settings) (pos : 0 < cfg.room) (o : Who) (k : ℕ) (some : 0 < k) where
  abbrev moves : (es : List Ev) (c d : Conn) → ℕ → List Self
  moves es c d n = drive cfg es n o c.mine d.mine k

  stops : (es : List Ev) (c d : Conn) → Both cfg es o c d → (n : ℕ) → speaks d d.phase ≡ false → moves es c d n ≡ []
  unfolding drive
  stops es c d b zero w = refl
  stops es c d b (suc n) w = let u = swap cfg es o (other o) c d (pair_of cfg es o c d b) in cond-false _ _ _ (ap speaks_in (finds cfg es (other o) o d c u) ∙ w)

  goes_on : (es : List Ev) (c d : Conn) → Both cfg es o c d → (n : ℕ) → speaks d d.phase ≡ true →
      moves es c d (suc n) ≡ moves (made cfg es (round_moves o c.mine d.mine k) ++ es) c d n ++ round_moves o c.mine d.mine k
  unfolding drive
  goes_on es c d b n w = let u = swap cfg es o (other o) c d (pair_of cfg es o c d b) in cond-true _ _ _ (ap speaks_in (finds cfg es (other o) o d c u) ∙ w)

  silent_done : (es : List Ev) (c d : Conn) → Both cfg es o c d → (n : ℕ) → speaks d d.phase ≡ false → Done cfg (6 * left c d) es (moves es c d n) o c d
  silent_done es c d b n w = record { after = es; reach = rw (stops es c d b n w) (reach_le cfg 0 (6 * left c d) es [] es (omega arith) (reach_none cfg es)); c' = c; at_c = b.at_c; mine = refl; has = silent_has cfg es o c d b w }

  drives : (n : ℕ) (es : List Ev) (c d : Conn) → Both cfg es o c d → left c d ≤ n → Done cfg (6 * left c d) es (moves es c d n) o c d
  drives zero es c d b l = ⊎_elim (λ w. absurd (omega (arith, l, left_some c d w))) (silent_done es c d b zero) (cases_Bool (speaks d d.phase))
  drives (suc n) es c d b l = ⊎_elim (λ w. go w (round_falls cfg pos es o c d b w k ((take_frees cfg pos es o c b.at_c k).0 some)) (λ r j. drives n gs r.c' r.d' r.both j)) (silent_done es c d b (suc n)) (cases_Bool (speaks d d.phase))
    where
      ms : List Self
      ms = round_moves o c.mine d.mine k

      gs : List Ev
      gs = made cfg es ms ++ es

      go : speaks d d.phase ≡ true → (length (made cfg es ms) ≤ 6) × Nearer cfg gs o c d → ((r : Nearer cfg gs o c d) → left r.c' r.d' ≤ n → Done cfg (6 * left r.c' r.d') gs (moves gs r.c' r.d' n) o r.c' r.d') → Done cfg (6 * left c d) es (moves es c d (suc n)) o c d
      go w (m, r) f = then (f r (omega (arith, l, r.fewer)))
        where
          same : moves gs r.c' r.d' n ≡ moves gs c d n
          same = ap (λ z. drive cfg gs n o z r.d'.mine k) r.mine_c ∙ ap (λ z. drive cfg gs n o c.mine z k) r.mine_d

          then : Done cfg (6 * left r.c' r.d') gs (moves gs r.c' r.d' n) o r.c' r.d' → Done cfg (6 * left c d) es (moves es c d (suc n)) o c d
          then t = record {
            after = t.after;
            reach = rw (goes_on es c d b n w, sym same) (reach_le cfg (6 + 6 * left r.c' r.d') (6 * left c d) es _ _ (omega (arith, r.fewer)) (reach_reach cfg 6 (6 * left r.c' r.d') es ms gs _ t.after (record { is = refl; count = m }) t.reach));
            c' = t.c';
            at_c = t.at_c;
            mine = t.mine ∙ r.mine_c;
            has = (t.has.0 ∙ r.given, λ z. t.has.1 (r.closed ∙ z));
          }

pub drive_brings_lem : DriveBrings
drive_brings_lem cfg pos es o c d b k n some l = go (drives cfg pos o k some n es c d b l)
  where
    ms : List Self
    ms = drive cfg es n o c.mine d.mine k

    go : Done cfg (6 * left c d) es ms o c d → (length (made cfg es ms) ≤ 6 * missing c d + 12) × ((x : Conn) → At o (world cfg (made cfg es ms ++ es)) x → x.mine ≡ c.mine → HasAll x d)
    go r = (
      omega (arith, r.reach.count, left-most c d),
      λ x m q. subst (λ z. HasAll z d) (sym (one_tag _ x r.c' (apart-at _ (inv cfg r.after).tagged o) (rw r.reach.is at m) r.at_c (q ∙ sym r.mine))) r.has,
    )

pub no_stand_self_lem : NoStandSelf
no_stand_self_lem cfg pos es o c d m n s t one = let (a, b) = drive_brings_lem cfg pos es o c d (record { at_c = m; at_d = n; live_c = s; live_d = t; one = one }) 1 (left c d) (omega arith) (omega arith) in (drive cfg es (left c d) o c.mine d.mine 1, a, b)
