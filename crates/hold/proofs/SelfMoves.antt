-- The moves that ends make by themselves, one at a time, for two connections that are one. Assumes nothing.
use Rattle.std.proofs.Common.{◌≡◌, ℕ, ◌+◌, ◌≤◌, true, false, not, ◌&&◌, ◌||◌, eqb, List, [], ◌∷◌, ◌++◌, length, sym, refl, ap, ◌∙◌, subst, inl, inr, ⊎_elim, append_assoc, arith, length-append}
use Rattle.std.proofs.lemmas.Bool.{cond-true, cond-false, and_from, eq-eqb, cases_Bool}
use Rattle.hold.specs.Packet.{Settings, Packet, Kind, Text, Yes}
use Rattle.hold.specs.Conn.{Conn, Phase, Open, open_with, takes, hears, says}
use Rattle.hold.specs.World.{Who, L, R, End, World, Ev, Due, Takes, Sends, Hears, end, other, coming_to, put, changed, gone, is_open, is_asked, by_tag, There, says_if, due_by, due_if, on_yes, on_text, on_kind, step, world}
use Rattle.hold.specs.Promise.{At, One, tags, apart}
use Rattle.hold.specs.Code.{is_text, has_bytes, wants_answer}
use Rattle.hold.specs.Self.{Self, Clock, Brings, speaks, on_clock, is_yes, on_hearing, on_nth, makes, made}
use Rattle.hold.proofs.Table.{one_tag, by_tag-finds, mem_changed}
use Rattle.hold.proofs.Puts.{end-put}
use Rattle.hold.proofs.Truth.{FactsOf, Tie, fresh_facts}
use Rattle.hold.proofs.Inv.{inv, apart-at}
use Rattle.hold.proofs.Rounds.{hear-step}

-- the two ends
pub data Opp : Who → Who → Type 0 where
  lr : Opp L R
  rl : Opp R L

pub opp : (o : Who) → Opp o (other o)
opp L = lr
opp R = rl

turned : (o p : Who) → Opp o p → Opp p o
turned o p lr = rl
turned o p rl = lr

end_far : (o p : Who) → Opp o p → (e : End) (ps : List Packet) (ts : List ℕ) (w : World) → end p (put o e ps ts w) ≡ end p w
end_far o p lr e ps ts w = refl
end_far o p rl e ps ts w = refl

coming_far : (o p : Who) → Opp o p → (e : End) (ps : List Packet) (ts : List ℕ) (w : World) → coming_to p (put o e ps ts w) ≡ ps ++ coming_to p w
coming_far o p lr e ps ts w = refl
coming_far o p rl e ps ts w = refl

-- half or open
pub record Alive (h : Phase) : Type 0 where
  pub stays : gone h ≡ false
  pub settled : is_asked h ≡ false

pub alive_open : (h : Phase) → h ≡ Open → Alive h
alive_open h e = record { stays = ap gone e; settled = ap is_asked e }

-- two that are one and alive, after these events
pub record Pair (cfg : Settings) (es : List Ev) (o p : Who) (c d : Conn) : Type 0 where
  pub ends : Opp o p
  pub at_c : At o (world cfg es) c
  pub at_d : At p (world cfg es) d
  pub live_c : Alive c.phase
  pub live_d : Alive d.phase
  pub one : One c d

pub swap : (cfg : Settings) (es : List Ev) (o p : Who) (c d : Conn) → Pair cfg es o p c d → Pair cfg es p o d c
swap cfg es o p c d u = record { ends = turned o p u.ends; at_c = u.at_d; at_d = u.at_c; live_c = u.live_d; live_d = u.live_c; one = (u.one.1, u.one.0) }

apart_in : (cfg : Settings) (es : List Ev) (o : Who) → apart (tags (end o (world cfg es)).conns) ≡ true
apart_in cfg es o = apart-at _ (inv cfg es).tagged o

tie_in : (cfg : Settings) (es : List Ev) (o p : Who) (c : Conn) → Opp o p → At o (world cfg es) c → Tie cfg c (end p (world cfg es)).conns
tie_in cfg es o p c lr m = ((inv cfg es).linked L c m).tie
tie_in cfg es o p c rl m = ((inv cfg es).linked R c m).tie

-- what each has of the other is true, opened or not
pub pair_facts : (cfg : Settings) (es : List Ev) (o p : Who) (c d : Conn) → Pair cfg es o p c d → FactsOf cfg c d
pair_facts cfg es o p c d u = go (tie_in cfg es o p c u.ends u.at_c)
  where
    go : Tie cfg c (end p (world cfg es)).conns → FactsOf cfg c d
    go (inl f) = fresh_facts cfg c d f
    go (inr (_, inl t)) = subst (FactsOf cfg c) (one_tag _ t.caller d (apart_in cfg es p) t.there u.at_d (t.calls ∙ u.one.0)) t.facts
    go (inr (_, inr t)) = subst (FactsOf cfg c) (one_tag _ t.partner d (apart_in cfg es p) t.there u.at_d (sym t.one.0 ∙ u.one.0)) t.facts

module _ (cfg : Settings) (es : List Ev) (o p : Who) (c d : Conn) (u : Pair cfg es o p c d) where
  pub finds : by_tag c.mine (end o (world cfg es)).conns ≡ There c
  finds = by_tag-finds _ c (apart_in cfg es o) u.at_c u.live_c.stays

  -- c sends
  sent : (e : Ev) (ps : List Packet) → step cfg e (world cfg es) ≡ put o (end o (world cfg es)) ps [] (world cfg es) → Pair cfg (e ∷ es) o p c d × (coming_to p (world cfg (e ∷ es)) ≡ ps ++ coming_to p (world cfg es))
  unfolding world
  sent e ps k = (
    record { ends = u.ends; at_c = rw (k, end-put o (end o (world cfg es)) ps [] (world cfg es)) u.at_c; at_d = rw (k, end_far o p u.ends (end o (world cfg es)) ps [] (world cfg es)) u.at_d; live_c = u.live_c; live_d = u.live_d; one = u.one },
    ap (coming_to p) k ∙ coming_far o p u.ends (end o (world cfg es)) ps [] (world cfg es),
  )

  pub by_clock_lem : (h : Phase) → c.phase ≡ h → Pair cfg (Due o c.mine ∷ es) o p c d × (coming_to p (world cfg (Due o c.mine ∷ es)) ≡ due_by cfg c h ++ coming_to p (world cfg es))
  by_clock_lem h e = sent (Due o c.mine) (due_by cfg c h) (ap (λ z. put o (end o (world cfg es)) (due_if cfg z) [] (world cfg es)) finds ∙ ap (λ z. put o (end o (world cfg es)) (due_by cfg c z) [] (world cfg es)) e)

  pub by_answer : (q k : ℕ) → c.phase ≡ Open → Pair cfg (Sends o c.mine q k ∷ es) o p c d × (coming_to p (world cfg (Sends o c.mine q k ∷ es)) ≡ says cfg q k c ∷ coming_to p (world cfg es))
  by_answer q k e = sent (Sends o c.mine q k) (says cfg q k c ∷ []) (ap (λ z. put o (end o (world cfg es)) (says_if cfg q k z) [] (world cfg es)) finds ∙ ap (λ z. put o (end o (world cfg es)) z [] (world cfg es)) (cond-true _ _ _ (ap is_open e)))

  -- c is changed
  edited : (e : Ev) (f : Conn → Conn) → step cfg e (world cfg es) ≡ put o (changed c.mine f (end o (world cfg es))) [] [] (world cfg es) → Alive (f c).phase → One (f c) d → Pair cfg (e ∷ es) o p (f c) d
  unfolding world
  edited e f k l i = record {
    ends = u.ends;
    at_c = rw (k, end-put o (changed c.mine f (end o (world cfg es))) [] [] (world cfg es)) (mem_changed f _ c (apart_in cfg es o) u.at_c u.live_c.stays);
    at_d = rw (k, end_far o p u.ends (changed c.mine f (end o (world cfg es))) [] [] (world cfg es)) u.at_d;
    live_c = l;
    live_d = u.live_d;
    one = i;
  }

  pub by_take : (k : ℕ) → Pair cfg (Takes o c.mine k ∷ es) o p (takes k c) d
  by_take k = edited (Takes o c.mine k) (takes k) refl u.live_c u.one

  -- c hears a text of d
  module _ (q : Packet) (qs : List Packet) (come : coming_to o (world cfg es) ≡ q ∷ qs) (from : q.from ≡ d.mine) (to : q.to ≡ c.mine) where
    found : by_tag q.to (end o (world cfg es)).conns ≡ There c
    found = ap (λ z. by_tag z (end o (world cfg es)).conns) to ∙ finds

    pub by_text : q.kind ≡ Text → Pair cfg (Hears o 0 0 ∷ es) o p (hears cfg q (open_with q.from c)) d
    by_text k = edited (Hears o 0 0) (λ z. hears cfg q (open_with q.from z)) (hear-step cfg (world cfg es) o q qs come ∙ ap (λ z. on_kind cfg o q 0 z (world cfg es)) k ∙ ap (λ z. on_text cfg o q z (world cfg es)) found ∙
        cond-true _ _ _ (and_from _ _ (ap not u.live_c.settled) (eq-eqb _ _ (u.one.0 ∙ sym from)))) (alive_open Open refl) (from, u.one.1)

    -- a yes that is heard again changes nothing
    pub by_yes : q.kind ≡ Yes → Pair cfg (Hears o 0 0 ∷ es) o p c d
    unfolding world
    by_yes k = let same : step cfg (Hears o 0 0) (world cfg es) ≡ world cfg es = hear-step cfg (world cfg es) o q qs come ∙ ap (λ z. on_kind cfg o q 0 z (world cfg es)) k ∙ ap (λ z. on_yes o q z (world cfg es)) found ∙
        cond-false _ _ _ u.live_c.settled ∙ cond-true _ _ _ (eq-eqb _ _ (u.one.0 ∙ sym from)) in
        record { ends = u.ends; at_c = rw same u.at_c; at_d = rw same u.at_d; live_c = u.live_c; live_d = u.live_d; one = u.one }

-- what each move makes
pub clock-makes : (cfg : Settings) (es : List Ev) (o p : Who) (c d : Conn) → Pair cfg es o p c d → speaks c c.phase ≡ true → makes cfg (world cfg es) (Clock o c.mine) ≡ Due o c.mine ∷ []
clock-makes cfg es o p c d u e = ap (on_clock o) (finds cfg es o p c d u) ∙ cond-true _ _ _ e

-- c, as it is after it heard q, and what it says to that
module _ (cfg : Settings) (es : List Ev) (o p : Who) (c d : Conn) (u : Pair cfg (Hears o 0 0 ∷ es) o p c d) (q : Packet) (qs : List Packet) (come : coming_to o (world cfg es) ≡ q ∷ qs) (from : q.from ≡ d.mine) (to : q.to ≡ c.mine) where
  hearing : (fs : List Ev) → on_hearing cfg o q (There c) ≡ fs → makes cfg (world cfg es) (Brings o 0 0) ≡ fs ++ (Hears o 0 0 ∷ [])
  unfolding on_nth world
  hearing fs e = ap (λ z. z ++ (Hears o 0 0 ∷ [])) (ap (λ z. on_nth cfg o 0 z (end o (step cfg (Hears o 0 0) (world cfg es))).conns) come ∙
      ap (on_hearing cfg o q) (ap (λ z. by_tag z (end o (step cfg (Hears o 0 0) (world cfg es))).conns) to ∙ finds cfg (Hears o 0 0 ∷ es) o p c d u) ∙ e)

  for_me : (not (is_asked c.phase) && eqb c.theirs q.from) ≡ true
  for_me = and_from _ _ (ap not u.live_c.settled) (eq-eqb _ _ (u.one.0 ∙ sym from))

  pub answer-makes : wants_answer q ≡ true → makes cfg (world cfg es) (Brings o 0 0) ≡ Sends o c.mine c.upto cfg.size ∷ Hears o 0 0 ∷ []
  answer-makes w = hearing (Sends o c.mine c.upto cfg.size ∷ []) (cond-true _ _ _ for_me ∙ cond-true _ _ _ w)

  pub yes_makes : q.kind ≡ Yes → c.phase ≡ Open → makes cfg (world cfg es) (Brings o 0 0) ≡ Due o c.mine ∷ Hears o 0 0 ∷ []
  yes_makes k h = hearing (Due o c.mine ∷ []) (cond-true _ _ _ for_me ∙ cond-false _ _ _ (silent q.kind k) ∙ cond-true _ _ _ (and_from _ _ (ap is_yes k) (ap is_open h)))
    where
      silent : (z : Kind) → z ≡ Yes → (is_text z && (q.last || has_bytes q.text)) ≡ false
      silent z e = rw e refl

  pub quiet-makes : q.kind ≡ Text → wants_answer q ≡ false → makes cfg (world cfg es) (Brings o 0 0) ≡ Hears o 0 0 ∷ []
  quiet-makes k w = hearing [] (cond-true _ _ _ for_me ∙ cond-false _ _ _ w ∙ cond-false _ _ _ (silent q.kind k))
    where
      silent : (z : Kind) → z ≡ Text → (is_yes z && is_open c.phase) ≡ false
      silent z e = rw e refl

  -- whatever it says to a text, all stays as it is
  pub some_makes : q.kind ≡ Text → c.phase ≡ Open → (fs : List Ev) × (makes cfg (world cfg es) (Brings o 0 0) ≡ fs) × (length fs ≤ 2) × Pair cfg (fs ++ es) o p c d
  some_makes k h = ⊎_elim (λ w. (Sends o c.mine c.upto cfg.size ∷ Hears o 0 0 ∷ [], answer-makes w, omega arith, (by_answer cfg (Hears o 0 0 ∷ es) o p c d u c.upto cfg.size h).0))
      (λ w. (Hears o 0 0 ∷ [], quiet-makes k w, omega arith, u)) (cases_Bool (wants_answer q))

-- these moves lead from one list of events to another, and make so many events at most
pub record Reach (cfg : Settings) (n : ℕ) (es : List Ev) (ms : List Self) (gs : List Ev) : Type 0 where
  pub is : made cfg es ms ++ es ≡ gs
  pub count : length (made cfg es ms) ≤ n

pub reach_none : (cfg : Settings) (es : List Ev) → Reach cfg 0 es [] es
unfolding made
reach_none cfg es = record { is = refl; count = omega arith }

pub reach_more : (cfg : Settings) (n : ℕ) (es : List Ev) (ms : List Self) (gs : List Ev) (m : Self) (fs : List Ev) → makes cfg (world cfg gs) m ≡ fs → Reach cfg n es ms gs → Reach cfg (length fs + n) es (m ∷ ms) (fs ++ gs)
unfolding made
reach_more cfg n es ms gs m fs e r = record {
  is = ap (λ z. z ++ es) all ∙ append_assoc fs (made cfg es ms) es ∙ ap (λ z. fs ++ z) r.is;
  count = omega (arith, ap length all, length-append fs (made cfg es ms), r.count);
}
  where
    all : makes cfg (world cfg (made cfg es ms ++ es)) m ++ made cfg es ms ≡ fs ++ made cfg es ms
    all = ap (λ z. z ++ made cfg es ms) (ap (λ z. makes cfg (world cfg z) m) r.is ∙ e)

pub made_app : (cfg : Settings) (es : List Ev) (ms ns : List Self) → made cfg es (ns ++ ms) ≡ made cfg (made cfg es ms ++ es) ns ++ made cfg es ms
unfolding made
made_app cfg es ms [] = refl
made_app cfg es ms (n ∷ ns) = go (made cfg es ms) (made cfg (made cfg es ms ++ es) ns) (made cfg es (ns ++ ms)) (made_app cfg es ms ns)
  where
    go : (fs gs hs : List Ev) → hs ≡ gs ++ fs → makes cfg (world cfg (hs ++ es)) n ++ hs ≡ (makes cfg (world cfg (gs ++ (fs ++ es))) n ++ gs) ++ fs
    go fs gs hs e = ap (λ z. makes cfg (world cfg (z ++ es)) n ++ z) e ∙ ap (λ z. makes cfg (world cfg z) n ++ (gs ++ fs)) (append_assoc gs fs es) ∙ sym (append_assoc (makes cfg (world cfg (gs ++ (fs ++ es))) n) gs fs)

pub reach_reach : (cfg : Settings) (m n : ℕ) (es : List Ev) (ms : List Self) (fs : List Ev) (ns : List Self) (gs : List Ev) → Reach cfg m es ms fs → Reach cfg n fs ns gs → Reach cfg (m + n) es (ns ++ ms) gs
reach_reach cfg m n es ms fs ns gs a b = record {
  is = ap (λ z. z ++ es) all ∙ append_assoc (made cfg fs ns) (made cfg es ms) es ∙ ap (λ z. made cfg fs ns ++ z) a.is ∙ b.is;
  count = omega (arith, ap length all, length-append (made cfg fs ns) (made cfg es ms), a.count, b.count);
}
  where
    all : made cfg es (ns ++ ms) ≡ made cfg fs ns ++ made cfg es ms
    all = made_app cfg es ms ns ∙ ap (λ z. made cfg z ns ++ made cfg es ms) a.is

pub reach_le : (cfg : Settings) (m n : ℕ) (es : List Ev) (ms : List Self) (gs : List Ev) → m ≤ n → Reach cfg m es ms gs → Reach cfg n es ms gs
reach_le cfg m n es ms gs l r = record { is = r.is; count = omega (arith, r.count) }
