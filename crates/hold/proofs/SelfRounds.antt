-- It never comes to a stand by what ends do by themselves: each round opens one that is half, or brings them into step, or a byte, or the end. Assumes nothing.
use Rattle.std.proofs.Common.{◌≡◌, ℕ, ◌+◌, ◌-◌, ◌<◌, ◌≤◌, true, false, ◌&&◌, T, eqb, List, [], ◌∷◌, ◌++◌, length, sym, refl, ap, ◌∙◌, subst, ⊎_elim, arith, length-drop}
use Rattle.std.proofs.lemmas.Bool.Decides.{nat_tests}
use Rattle.std.proofs.lemmas.Bool.{and_parts, or_cases, or_left, or_right, eq-eqb, ltb-true, not-true, cases_lt, cases_eq, ne_eqb}
use Rattle.hold.specs.Packet.{Settings, Packet, larger, lower, bare, Yes, Text}
use Rattle.hold.specs.Conn.{Conn, Phase, Asked, Half, Open, Gone, Last, open_with, takes, hears, says, due, due_text}
use Rattle.hold.specs.World.{Who, Ev, Due, Takes, Sends, Hears, other, coming_to, is_open, world}
use Rattle.hold.specs.Promise.{lives}
use Rattle.hold.specs.Code.{owes, wants_answer, has_bytes}
use Rattle.hold.specs.Self.{Self, Clock, Brings, Take, speaks, makes, made, missing}
use Rattle.hold.specs.Drive.{Both, round_moves, left, Nearer, RoundFalls}
use Rattle.hold.specs.Live.{Heard}
use Rattle.hold.specs.Rules.{is_half}
use Rattle.hold.proofs.Bricks.{false_true}
use Rattle.hold.proofs.Truth.{FactsOf, front_length}
use Rattle.hold.proofs.Carry.{hears-due, first_byte, larger-one, last_due}
use Rattle.hold.proofs.Inv.{inv}
use Rattle.hold.proofs.Live.{both_half, front_all}
use Rattle.hold.proofs.SelfMoves.{opp, Alive, Pair, swap, pair_facts, by_clock_lem, by_answer, by_take, by_text, by_yes, clock-makes, answer-makes, yes_makes, some_makes, Reach, reach_none, reach_more, reach_le}

-- the due text of one that owes something is answered
bytes_wanted : (cfg : Settings) (d : Conn) → d.upto < length d.given → wants_answer (due cfg d) ≡ true
bytes_wanted cfg d l = go (first_byte (larger 1 (lower cfg.size (d.sees - d.upto))) d.upto d.given (larger-one (lower cfg.size (d.sees - d.upto))) l)
  where
    go : (x : ℕ) × (r : List ℕ) × (due_text cfg d ≡ x ∷ r) → wants_answer (due cfg d) ≡ true
    go (x, r, e) = or_right _ _ (ap has_bytes e)

due-wanted : (cfg : Settings) (d : Conn) → d.upto ≤ length d.given → owes d ≡ true → wants_answer (due cfg d) ≡ true
due-wanted cfg d l w = ⊎_elim (λ h. bytes_wanted cfg d (ltb-true _ _ h)) (λ h. ⊎_elim (bytes_wanted cfg d) (λ k. let (a, b) = and_parts _ _ h in or_left _ _ (last_due cfg d d a (not-true _ b) (omega (arith, l, k)))) (cases_lt d.upto (length d.given)))
    (or_cases _ _ (and_parts _ _ w).1)

larger_right : (a b : ℕ) → b ≤ larger a b
larger_right a b = grind (arith, nat_tests)

-- those that are one and live, as the moves want them
alive : (h : Phase) → T (lives h) → Alive h
alive Asked t = absurd t
alive Half t = record { stays = refl; settled = refl }
alive Open t = record { stays = refl; settled = refl }
alive Gone t = absurd t

still_lives : (h : Phase) → Alive h → T (lives h)
still_lives Asked a = false_true _ a.settled refl
still_lives Half a = tt
still_lives Open a = tt
still_lives Gone a = false_true _ a.stays refl

pub pair_of : (cfg : Settings) (es : List Ev) (o : Who) (c d : Conn) → Both cfg es o c d → Pair cfg es o (other o) c d
pair_of cfg es o c d b = record { ends = opp o; at_c = b.at_c; at_d = b.at_d; live_c = alive _ b.live_c; live_d = alive _ b.live_d; one = b.one }

pub both_of : (cfg : Settings) (es : List Ev) (o : Who) (c d : Conn) → Pair cfg es o (other o) c d → Both cfg es o c d
both_of cfg es o c d u = record { at_c = u.at_c; at_d = u.at_d; live_c = still_lives _ u.live_c; live_d = still_lives _ u.live_d; one = u.one }

-- the rounds that are wanted
left_silent : (c d : Conn) → speaks d d.phase ≡ false → left c d ≡ 0
left_silent c d w = grind (arith, nat_tests)

pub left_some : (c d : Conn) → speaks d d.phase ≡ true → missing c d + 1 ≤ left c d
left_some c d w = grind (arith, nat_tests)

left_more : (c d : Conn) → speaks d d.phase ≡ true → (is_open d.phase && eqb d.upto (length c.got)) ≡ false → left c d ≡ missing c d + 2
left_more c d w e = grind (arith, nat_tests)

pub left-most : (c d : Conn) → left c d ≤ missing c d + 2
left-most c d = grind (arith, nat_tests)

left_step : (c d : Conn) → is_open d.phase ≡ true → d.upto ≡ length c.got → left c d ≤ missing c d + 1
left_step c d h e = grind (arith, nat_tests)

-- these moves are a round, and lead so far
pub record Round (cfg : Settings) (es : List Ev) (ms : List Self) (o : Who) (c d : Conn) : Type 0 where
  pub after : List Ev
  pub reach : Reach cfg 6 es ms after
  pub nearer : Nearer cfg after o c d

takes-free : (room k : ℕ) (c : Conn) → 0 < room → length c.got < c.taken + k + room → length c.got < (takes k c).taken + room
takes-free room k c pos free = grind (arith, nat_tests)

-- the last move of a round: d hears a text of c₂, which c is by then, and is open and in step
module _ (cfg : Settings) (es es₄ : List Ev) (ms : List Self) (o : Who) (c d c₂ : Conn) (mine : c₂.mine ≡ c.mine) (q : Packet) (kind : q.kind ≡ Text) (from : q.from ≡ c₂.mine) (to : c₂.theirs ≡ q.to) (upto : q.upto ≡ length c₂.got) where
  d₂ : Conn
  d₂ = hears cfg q (open_with q.from d)

  in_step : (gs : List Ev) → Pair cfg gs o (other o) c₂ d₂ → d₂.upto ≡ length c₂.got
  unfolding d₂
  in_step gs x = omega (arith, upto, (pair_facts cfg gs (other o) o d₂ c₂ (swap cfg gs o (other o) c₂ d₂ x)).came, larger_right d.upto q.upto)

  heard_back : ((gs : List Ev) → Pair cfg gs o (other o) c₂ d₂ → d₂.upto ≡ length c₂.got → left c₂ d₂ < left c d) →
      Pair cfg es₄ (other o) o d c₂ → Reach cfg 4 es ms es₄ → (qs : List Packet) → coming_to (other o) (world cfg es₄) ≡ q ∷ qs → Round cfg es (Brings (other o) 0 0 ∷ ms) o c d
  unfolding d₂
  heard_back fewer v r qs come = go (some_makes cfg es₄ (other o) o d₂ c₂ (by_text cfg es₄ (other o) o d c₂ v q qs come from (sym to ∙ v.one.1) kind) q qs come from (sym to ∙ v.one.1) kind refl)
    where
      go : (fs : List Ev) × (makes cfg (world cfg es₄) (Brings (other o) 0 0) ≡ fs) × (length fs ≤ 2) × Pair cfg (fs ++ es₄) (other o) o d₂ c₂ → Round cfg es (Brings (other o) 0 0 ∷ ms) o c d
      go (fs, m, n, x) = let y = swap cfg (fs ++ es₄) (other o) o d₂ c₂ x in record {
        after = fs ++ es₄;
        reach = reach_le cfg (length fs + 4) 6 es _ _ (omega (arith, n)) (reach_more cfg 4 es _ es₄ (Brings (other o) 0 0) fs m r);
        nearer = record { c' = c₂; d' = d₂; both = both_of cfg (fs ++ es₄) o c₂ d₂ y; open_d = refl; mine_c = mine; mine_d = refl; given = refl; closed = refl; fewer = fewer (fs ++ es₄) y (in_step (fs ++ es₄) y) };
      }

-- whether d is half or open, c's user takes first, and then d's clock says something
module _ (cfg : Settings) (es : List Ev) (o : Who) (c d : Conn) (u : Pair cfg es o (other o) c d) (w : speaks d d.phase ≡ true) (k : ℕ) where
  es₁ : List Ev
  es₁ = Takes o c.mine k ∷ es

  es₂ : List Ev
  es₂ = Due (other o) d.mine ∷ es₁

  u₁ : Pair cfg es₁ (other o) o d (takes k c)
  unfolding es₁
  u₁ = swap cfg es₁ o (other o) (takes k c) d (by_take cfg es o (other o) c d u k)

  begun : Reach cfg 2 es (Clock (other o) d.mine ∷ Take o c.mine k ∷ []) es₂
  unfolding es₁ es₂
  begun = reach_more cfg 1 es _ es₁ (Clock (other o) d.mine) _ (clock-makes cfg es₁ (other o) o d (takes k c) u₁ w) (reach_more cfg 0 es [] es (Take o c.mine k) _ refl (reach_none cfg es))

  -- d is half, and says yes
  module _ (open_c : c.phase ≡ Open) (half-d : d.phase ≡ Half) where
    half_fewer : (d₁ : Conn) → Heard cfg (takes k c) d d₁ → d₁.upto ≡ length c.got → left (takes k c) d₁ < left c d
    half_fewer d₁ h e = omega (arith, left_step (takes k c) d₁ (ap is_open h.phase) e, left_more c d w (rw half-d refl), ap length h.given, length-drop (length c.got) d.given, length-drop (length c.got) d₁.given)

    half_round : Round cfg es (round_moves o c.mine d.mine k) o c d
    unfolding es₁ es₂ d₂
    half_round = let (v, come) = by_clock_lem cfg es₁ (other o) o d (takes k c) u₁ Half half-d in
        let y = by_yes cfg es₂ o (other o) (takes k c) d (swap cfg es₂ (other o) o d (takes k c) v) (bare Yes d.mine d.theirs) (coming_to o (world cfg es₁)) come refl u.one.1 refl in
        let (z, come') = by_clock_lem cfg (Hears o 0 0 ∷ es₂) o (other o) (takes k c) d y Open open_c in
        heard_back cfg es (Due o c.mine ∷ Hears o 0 0 ∷ es₂) _ o c d (takes k c) refl (due cfg (takes k c)) refl refl refl refl
        (λ gs x e. half_fewer (hears cfg (due cfg (takes k c)) (open_with c.mine d)) (hears-due cfg (takes k c) d) e)
        (swap cfg _ o (other o) (takes k c) d z)
        (reach_more cfg 2 es _ es₂ (Brings o 0 0) _ (yes_makes cfg es₂ o (other o) (takes k c) d y (bare Yes d.mine d.theirs) (coming_to o (world cfg es₁)) come refl u.one.1 refl open_c) begun)
        (coming_to (other o) (world cfg (Hears o 0 0 ∷ es₂))) come'

  -- d is open, and says its due text; it owes something
  module _ (pos : 0 < cfg.room) (free : length c.got < c.taken + k + cfg.room) (open_d : d.phase ≡ Open) where
    owing : owes d ≡ true
    owing = go d.phase open_d w
      where
        go : (h : Phase) → h ≡ Open → speaks d h ≡ true → owes d ≡ true
        go h e s = rw e at s

    got : length c.got ≤ length d.given
    got = front_length _ _ (pair_facts cfg es o (other o) c d u).front

    wanted : wants_answer (due cfg d) ≡ true
    wanted = due-wanted cfg d (omega (arith, (pair_facts cfg es (other o) o d c (swap cfg es o (other o) c d u)).came, got)) owing

    -- c heard it
    module _ (c₂ : Conn) (h : Heard cfg d (takes k c) c₂) where
      q : Packet
      q = says cfg c₂.upto cfg.size c₂

      d₃ : Conn
      d₃ = hears cfg q (open_with c₂.mine d)

      -- all was got, and only the end is wanted
      module _ (gs : List Ev) (x : Pair cfg gs o (other o) c₂ d₃) (s : d₃.upto ≡ length c₂.got) (e : d.upto ≡ length c.got) (l : length d.given ≤ length c.got) where
        f : FactsOf cfg c₂ d₃
        f = pair_facts cfg gs o (other o) c₂ d₃ x

        all : c₂.got ≡ d₃.given
        unfolding q d₃
        all = front_all _ _ f.front (omega (arith, h.longer, l))

        closed : (d.closed ≡ true) × (d.all ≡ false)
        closed = let o = owing in let g = got in (grind (arith, nat_tests), grind (arith, nat_tests))

        ended : c₂.ended ≡ true
        ended = go (h.ends_come closed.0 closed.1 (omega (arith, e, l, got)))
          where
            go : (p : ℕ) × (c₂.end ≡ Last.At p) → c₂.ended ≡ true
            go (p, i) = f.told p i ∙ eq-eqb _ _ ((f.end_true p i).0 ∙ ap length (sym all))

        told : owes d₃ ≡ false
        unfolding q d₃
        told = let a = ended in let n = ap length all in grind (arith, nat_tests)

      fewer : (gs : List Ev) → Pair cfg gs o (other o) c₂ d₃ → d₃.upto ≡ length c₂.got → left c₂ d₃ < left c d
      unfolding q d₃
      fewer gs x s = ⊎_elim stepped (λ n. omega (arith, at_most, left_more c d w (rw open_d (ne_eqb _ _ n)), h.longer, before, after)) (cases_eq d.upto (length c.got))
        where
          before : missing c d ≡ length d.given - length c.got
          before = length-drop (length c.got) d.given

          after : missing c₂ d₃ ≡ length d.given - length c₂.got
          after = length-drop (length c₂.got) d.given

          at_most : left c₂ d₃ ≤ missing c₂ d₃ + 1
          at_most = left_step c₂ d₃ refl s

          stepped : d.upto ≡ length c.got → left c₂ d₃ < left c d
          stepped e = ⊎_elim (λ l. omega (arith, at_most, left_some c d w, h.brings e l (takes-free cfg.room k c pos free), before, after))
              (λ l. omega (arith, left_silent c₂ d₃ (told gs x s e l), left_some c d w)) (cases_lt (length c.got) (length d.given))

      answered : Pair cfg (Hears o 0 0 ∷ es₂) o (other o) c₂ d → (qs : List Packet) → coming_to o (world cfg es₂) ≡ due cfg d ∷ qs → Round cfg es (round_moves o c.mine d.mine k) o c d
      unfolding q d₂ d₃
      answered v qs come = let (x, come') = by_answer cfg (Hears o 0 0 ∷ es₂) o (other o) c₂ d v c₂.upto cfg.size h.phase in
          heard_back cfg es (Sends o c₂.mine c₂.upto cfg.size ∷ Hears o 0 0 ∷ es₂) _ o c d c₂ h.mine q refl refl refl refl fewer (swap cfg _ o (other o) c₂ d x)
          (reach_more cfg 2 es _ es₂ (Brings o 0 0) _ (answer-makes cfg es₂ o (other o) c₂ d v (due cfg d) qs come refl v.one.1 wanted) begun) _ come'

    open-round : Round cfg es (round_moves o c.mine d.mine k) o c d
    unfolding es₂
    open-round = let (v, come) = by_clock_lem cfg es₁ (other o) o d (takes k c) u₁ Open open_d in
        answered _ (hears-due cfg d (takes k c)) (by_text cfg es₂ o (other o) (takes k c) d (swap cfg es₂ (other o) o d (takes k c) v) (due cfg d) (coming_to o (world cfg es₁)) come refl v.one.0 refl) (coming_to o (world cfg es₁)) come

pub round_falls : RoundFalls
round_falls cfg pos es o c d b w k free = told (go c.phase d.phase refl refl b.live_c b.live_d)
  where
    u : Pair cfg es o (other o) c d
    u = pair_of cfg es o c d b

    go : (h j : Phase) → c.phase ≡ h → d.phase ≡ j → T (lives h) → T (lives j) → Round cfg es (round_moves o c.mine d.mine k) o c d
    go h Open e f _ _ = open-round cfg es o c d u w k pos free f
    go Open Half e f _ _ = half_round cfg es o c d u w k e f
    go Half Half e f _ _ = both_half cfg (world cfg es) (inv cfg es) o c d b.at_c b.at_d b.one (ap is_half e) (ap is_half f)
    go Asked Half e f t _ = absurd t
    go Gone Half e f t _ = absurd t
    go h Asked e f _ t = absurd t
    go h Gone e f _ t = absurd t

    told : Round cfg es (round_moves o c.mine d.mine k) o c d → (length (made cfg es (round_moves o c.mine d.mine k)) ≤ 6) × Nearer cfg (made cfg es (round_moves o c.mine d.mine k) ++ es) o c d
    told r = (r.reach.count, subst (λ z. Nearer cfg z o c d) (sym r.reach.is) r.nearer)
