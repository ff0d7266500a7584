-- What the invariant gives of one world, and so of every run: all parts of the promise but that it never comes to a stand. Assumes nothing.
use Rattle.std.proofs.Common.{◌≡◌, ℕ, true, List, [], ◌∷◌, length, sym, refl, ap, ◌∙◌, subst, inl, inr, ⊎_elim, arith, length-append}
use Rattle.std.proofs.lemmas.Bool.{eqb-true, cases_Bool}
use Rattle.hold.specs.Packet.{Settings}
use Rattle.hold.specs.Conn.{Conn, Last, NotSaid, ends}
use Rattle.hold.specs.World.{Who, World, Ev, start, end, other, world}
use Rattle.hold.specs.Promise.{At, One, Tagged, Paired, InRoom, KeptTrue, TrulyCame, Holds}
use Rattle.hold.specs.Extras.{EdgeTrue, Unique, ToldExactly}
use Rattle.hold.specs.Rules.{Chain, none, one_more, Promised, RulesHold, EventsMove}
use Rattle.hold.proofs.Bricks.{true→T, false_true, stands_spec}
use Rattle.hold.proofs.Table.{one_tag}
use Rattle.hold.proofs.Truth.{FactsOf, TiedOf, Tie}
use Rattle.hold.proofs.Moves.{moves}
use Rattle.hold.proofs.Inv.{Inv, inv, move_inv, apart-at}

-- whoever was opened is tied
pub tied : (cfg : Settings) (c : Conn) (ds : List Conn) → c.opened ≡ true → Tie cfg c ds → TiedOf cfg c ds
tied cfg c ds h (inl f) = false_true _ f.not_opened h
tied cfg c ds h (inr (_, inr t)) = t
tied cfg c ds h (inr (_, inl w)) = false_true _ w.not_opened h

facts_told : (cfg : Settings) (c d : Conn) → FactsOf cfg c d → c.ended ≡ ends c.end (length c.got)
facts_told cfg c d f = go c.end refl
  where
    go : (e : Last) → c.end ≡ e → c.ended ≡ ends e (length c.got)
    go (Last.At q) e = f.told q e
    go NotSaid e = ⊎_elim (λ h. let (q, k) = f.end_heard h in absurd (let z : ◌≡◌ {A = ℕ} 0 1 = cc in omega arith)) (λ h. h) (cases_Bool c.ended)

told_by_lem : (cfg : Settings) (c : Conn) (ds : List Conn) → Tie cfg c ds → c.ended ≡ ends c.end (length c.got)
told_by_lem cfg c ds (inl f) = let e = f.is_nothing in ap (λ h. h.ended) e ∙ sym (ap (λ h. ends h.end (length h.got)) e)
told_by_lem cfg c ds (inr (_, inl t)) = facts_told cfg c t.caller t.facts
told_by_lem cfg c ds (inr (_, inr t)) = facts_told cfg c t.partner t.facts

pub no_rest : (rest : List ℕ) → length rest ≡ 0 → rest ≡ []
no_rest [] e = refl
no_rest (x ∷ xs) e = absurd (omega arith)

module _ (cfg : Settings) (w : World) (i : Inv cfg w) where
  module _ (o : Who) (c : Conn) (m : At o w c) (h : c.opened ≡ true) where
    pub tie_of : TiedOf cfg c (end (other o) w).conns
    tie_of = tied cfg c _ h (i.linked o c m).tie

    alone_with : (e : Conn) → At (other o) w e → e.mine ≡ c.theirs → e ≡ tie_of.partner
    alone_with e n q = one_tag _ e tie_of.partner (apart-at w i.tagged (other o)) n tie_of.there (q ∙ tie_of.one.0)

    pub facts_with : (e : Conn) → At (other o) w e → One c e → FactsOf cfg c e
    facts_with e n k = subst (FactsOf cfg c) (sym (alone_with e n (sym k.0))) tie_of.facts

    holds_at : Holds w o c
    holds_at = go tie_of alone_with
      where
        go : (t : TiedOf cfg c (end (other o) w).conns) → ((e : Conn) → At (other o) w e → e.mine ≡ c.theirs → e ≡ t.partner) → Holds w o c
        go t only = record {
          partner = t.partner;
          there = t.there;
          one = t.one;
          only = only;
          rest = t.facts.front.0;
          first_part = t.facts.front.1;
          end_of_all = λ k. let (q, e) = t.facts.end_heard k in (no_rest _ (short q e k), (t.facts.end_true q e).1);
          end_heard = t.facts.end_heard;
          end_true = t.facts.end_true;
          told = t.facts.told;
          came = t.facts.came;
          all_came = t.facts.all_came;
        }
          where
            short : (q : ℕ) → c.end ≡ Last.At q → c.ended ≡ true → length t.facts.front.0 ≡ 0
            short q e k = omega (arith, eqb-true q _ (sym (t.facts.told q e) ∙ k), (t.facts.end_true q e).0, length-append c.got t.facts.front.0, ap length t.facts.front.1)

  unique_at : (o : Who) (c d : Conn) → At o w c → At o w d → c.opened ≡ true → d.opened ≡ true → c.theirs ≡ d.theirs → c ≡ d
  unique_at o c d m n h k q = go (tie_of o c m h) (tie_of o d n k)
    where
      go : TiedOf cfg c (end (other o) w).conns → TiedOf cfg d (end (other o) w).conns → c ≡ d
      go s t = one_tag _ c d (apart-at w i.tagged o) m n
          (sym s.one.1 ∙ ap (λ z. z.theirs) (one_tag _ s.partner t.partner (apart-at w i.tagged (other o)) s.there t.there (sym s.one.0 ∙ q ∙ t.one.0)) ∙ t.one.1)

  pub promised : Promised cfg w
  promised = record {
    tagged = true→T _ i.tagged.apart_all;
    holds = holds_at;
    unique = unique_at;
    told = λ o c m. told_by_lem cfg c _ (i.linked o c m).tie;
    room = λ o c m. let l = (i.linked o c m).local in (l.taken_got, l.got_room, l.kept_room);
    kept = λ o c d m n h k. (facts_with o c m h d n k).kept_true;
    edge = λ o c d m n h k. (facts_with o c m h d n k).edge_true;
  }

-- of every run
pub in_run : (cfg : Settings) (es : List Ev) → Promised cfg (world cfg es)
in_run cfg es = promised cfg (world cfg es) (inv cfg es)

pub tagged : Tagged
tagged cfg es = (in_run cfg es).tagged

pub in_room : InRoom
in_room cfg es = (in_run cfg es).room

pub holds : (cfg : Settings) (es : List Ev) (o : Who) (c : Conn) → At o (world cfg es) c → c.opened ≡ true → Holds (world cfg es) o c
holds cfg es = (in_run cfg es).holds

pub paired : Paired
paired cfg es o c m h = let r = holds cfg es o c m h in (r.partner, r.there, r.one, r.only)

pub kept_true : KeptTrue
kept_true cfg es o c d m n h k x i = stands_spec x.place x.byte d.given ((in_run cfg es).kept o c d m n h k x i)

pub truly_came : TrulyCame
truly_came cfg es o c d m n h k = let f = facts_with cfg (world cfg es) (inv cfg es) o c m h d n k in (f.came, f.all_came)

pub edges : EdgeTrue
edges cfg es = (in_run cfg es).edge

pub unique : Unique
unique cfg es = (in_run cfg es).unique

pub told_exactly : ToldExactly
told_exactly cfg es = (in_run cfg es).told

-- of whoever goes by the rules
pub chain_inv : (cfg : Settings) (w v : World) → Chain cfg w v → Inv cfg w → Inv cfg v
chain_inv cfg w v none i = i
chain_inv cfg w v (one_more u x c m) i = move_inv cfg _ _ m (chain_inv cfg w u c i)

pub start_inv : (cfg : Settings) → Inv cfg start
unfolding world
start_inv cfg = inv cfg []

pub rules_hold_lem : RulesHold
rules_hold_lem cfg w c = promised cfg w (chain_inv cfg start w c (start_inv cfg))

pub events_move : EventsMove
events_move cfg es e = moves cfg (world cfg es) (apart-at _ (inv cfg es).tagged) e

pub run_chain : (cfg : Settings) (es : List Ev) → Chain cfg start (world cfg es)
unfolding world
run_chain cfg [] = none
run_chain cfg (e ∷ es) = one_more (world cfg es) _ (run_chain cfg es) (events_move cfg es e)
