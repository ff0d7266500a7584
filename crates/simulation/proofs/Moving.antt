-- What the code sees and does is what a move of the model makes.
use Rattle.std.proofs.Common.{◌≡◌, ℕ, ◌+◌, ◌-◌, ◌<◌, Bool, true, false, cond, not, ◌&&◌, ◌||◌, eqb, List, [], ◌∷◌, ◌++◌, length, take, Some, None, Ok, Option, sym, refl, ap, ◌∙◌, subst, append_assoc, arith, length-append}
use Rattle.std.proofs.lemmas.List.{take_all, take_more}
use Rattle.std.proofs.lemmas.Option.{get_or_from_slice_get, slice_get_within}
use Rattle.std.specs.List.{slice_get}
use Rattle.std.specs.Option.{MatchOption, option_eq}
use Rattle.std.proofs.lemmas.Bool.{and_from, and_right, eqb-true, not-true, cond-false, cond-true, eq-eqb, ne_eqb}
use Rattle.hold.specs.Code.{owes, wants_answer}
use Rattle.hold.specs.Conn.{Asked, Conn, Gone, Half, Open, Phase}
use Rattle.hold.specs.Drive.{speaks_in}
use Rattle.hold.specs.Packet as m
use Rattle.hold.specs.Self.{Brings, is_yes, on_clock, on_hearing, on_nth, speaks}
use Rattle.hold.specs.World.{Due, Ev, Found, Hears, NotThere, Sends, There, Who, World, by_tag, end, gone, is_asked, is_open, world}
use Rattle.hold.proofs.Bricks.{false_true}
use Rattle.hold.proofs.Table.{by_tag_mem}
use Rattle.packet.specs.Packets.{packet}
use Rattle.packet.specs.declared.packet.Packet.{Packet}
use Rattle.endpoint.specs.Saying.{upto_of}
use Rattle.ledger.specs.Books.{partner_of, peer_of, view_of}
use Rattle.ledger.specs.declared.record.View.{View}
use Rattle.simulation.specs.Carry.{Goes, HeardLatest, Latest, Made1, Seen}
use Rattle.simulation.specs.Shows.{Does, Placed, Shows, answers, net_of, net_to, who_of}
use Rattle.simulation.specs.Seen.{sent_to}
use Rattle.simulation.specs.declared.pair.Side.{Side}
use Rattle.simulation.specs.declared.pair.Pair.{Pair}
use Rattle.simulation.proofs.BothSides.{came_is}
use Rattle.simulation.proofs.Nets.{net_push}

-- the last packet of a net is the latest
latest_is : (net : List Packet) (p : Packet) → slice_get net (length net - 1) ≡ Some p → (qs : List m.Packet) × (net_of net ≡ packet p ∷ qs)
latest_is net p e = (net_of (take (length net - 1) net), net_push (take (length net - 1) net) net p (Some p) refl (sym whole))
  where
    some : length net - 1 < length net
    some = slice_get_within net (length net - 1) p e

    whole : take (length net - 1) net ++ p ∷ [] ≡ net
    whole = ap (λ z. take (length net - 1) net ++ z ∷ []) (sym (get_or_from_slice_get net (length net - 1) p p e)) ∙ sym (take_more net (length net - 1) p some) ∙ take_all (length net - 1 + 1) net (omega (arith, some))

pub came_last : (p q : Pair) (s : Side) (came : List Packet) (x : Packet) (k : ℕ) → came ≡ sent_to s p → slice_get came (length came - 1) ≡ Some x → Placed (net_to (who_of s) p) (length came - 1) (Ok k) → Does p q (λ _. Hears (who_of s) k 0 ∷ []) → HeardLatest p q (who_of s) (Ok x)
came_last p q s came x k e at (l, a) d =
    let n = e ∙ came_is p s in
    let z : k ≡ 0 = omega (arith, a, ap length n) in
    (subst (λ y. Latest y (Some x)) n (latest_is came x at), subst (λ y. Does p q (λ _. Hears (who_of s) y 0 ∷ [])) z d)

pub not-not : (b : Bool) → not b ≡ false → b ≡ true
not-not true e = refl
not-not false e = sym e

-- who speaks, as it is seen
says : (c : Conn) (h : Phase) → gone h ≡ false → (not (is_open h) || owes c) ≡ speaks c h
says c Asked g = refl
says c Half g = refl
says c Open g = refl
says c Gone g = false_true _ g refl

pub speaks_so : (t : ℕ) (cs : List Conn) (o : Option View) (b : Bool) (P : View → Type 0) → o ≡ view_of (by_tag t cs) → MatchOption o (b ≡ false) P → ((v : View) → P v → b ≡ (not v.opened || v.owes)) → b ≡ speaks_in (by_tag t cs)
speaks_so t cs o b P e h g = go (by_tag t cs) refl (subst (λ z. MatchOption z (b ≡ false) P) e h)
  where
    go : (f : Found) → by_tag t cs ≡ f → MatchOption (view_of f) (b ≡ false) P → b ≡ speaks_in f
    go NotThere q k = k
    go (There c) q k = g _ k ∙ says c c.phase (by_tag_mem t cs c q).2

-- a clock
pub clock_none : (o : Who) (f : Found) → speaks_in f ≡ false → on_clock o f ≡ []
clock_none o NotThere e = refl
clock_none o (There c) e = cond-false _ _ _ e

pub clock_some : (o : Who) (t : ℕ) (cs : List Conn) → speaks_in (by_tag t cs) ≡ true → on_clock o (by_tag t cs) ≡ Due o t ∷ []
clock_some o t cs e = go (by_tag t cs) refl e
  where
    go : (f : Found) → by_tag t cs ≡ f → speaks_in f ≡ true → on_clock o f ≡ Due o t ∷ []
    go NotThere q k = false_true _ refl k
    go (There c) q k = cond-true _ _ _ k ∙ ap (λ u. Due o u ∷ []) (by_tag_mem t cs c q).1

-- events that make the same
pub makes_as : (cfg : m.Settings) (q : Pair) (es fs gs : List Ev) (n : ℕ) → gs ≡ fs → length fs ≡ n → Shows cfg q (world cfg (fs ++ es)) → Shows cfg q (world cfg (gs ++ es)) × (length gs ≡ n)
makes_as cfg q es fs gs n e l s = (subst (λ z. Shows cfg q (world cfg (z ++ es))) (sym e) s, ap length e ∙ l)

-- the other's tag as it is seen is that of the connection
pub partner_is : (v : View) (c : Conn) → Some v ≡ view_of (There c) → partner_of v ≡ peer_of c
partner_is v c e = let a : v.settled ≡ not (is_asked c.phase) = cc in let b : v.peer ≡ c.theirs = cc in ap (λ z. cond z (Some v.peer) None) a ∙ ap (λ z. cond (not (is_asked c.phase)) (Some z) None) b ∙ turned (is_asked c.phase) c.theirs
  where
    turned : (b : Bool) (x : ℕ) → cond (not b) (Some x) None ≡ cond b None (Some x)
    turned true x = refl
    turned false x = refl

-- the other's tag, where it is known
pub peer_parts : (b : Bool) (x t : ℕ) → cond b None (Some x) ≡ Some t → (not b ≡ true) × (x ≡ t)
peer_parts true x t e = absurd (let z : ◌≡◌ {A = ℕ} 0 1 = cc in omega arith)
peer_parts false x t e = (refl, cc)

peer_is-not : (b : Bool) (x t : ℕ) → (cond b None (Some x) ≡ Some t → ⊥) → (not b && eqb x t) ≡ false
peer_is-not true x t n = refl
peer_is-not false x t n = ne_eqb x t (λ e. n (ap Some e))

-- what a test of it tells
pub known_is : (o : Option ℕ) (t : ℕ) → false ≡ not (option_eq eqb o (Some t)) → o ≡ Some t
known_is None t e = false_true false refl e
known_is (Some x) t e = ap Some (eqb-true x t (not-not _ (sym e)))

pub known-not : (o : Option ℕ) (t : ℕ) → true ≡ not (option_eq eqb o (Some t)) → o ≡ Some t → ⊥
known-not o t e q = false_true _ (not-true _ (sym e)) (ap (λ z. option_eq eqb z (Some t)) q ∙ eq-eqb t t refl)

-- what the connection that a packet was for says, as it is seen after the hearing
module _ (cfg : m.Settings) (o : Who) (k : m.Packet) where
  pub hearing_none : (f : Found) → None ≡ view_of f → on_hearing cfg o k f ≡ []
  hearing_none NotThere e = refl
  hearing_none (There c) e = absurd (let z : ◌≡◌ {A = ℕ} 0 1 = cc in omega arith)

  module _ (cs : List Conn) (v : View) (e : Some v ≡ view_of (by_tag k.to cs)) where
    -- by cases of what was found
    found : (fs : List Ev) → ((c : Conn) → c.mine ≡ k.to → partner_of v ≡ peer_of c → v.opened ≡ is_open c.phase → by_tag k.to cs ≡ There c → on_hearing cfg o k (There c) ≡ fs) → on_hearing cfg o k (by_tag k.to cs) ≡ fs
    found fs g = go (by_tag k.to cs) refl e
      where
        go : (f : Found) → by_tag k.to cs ≡ f → Some v ≡ view_of f → on_hearing cfg o k f ≡ fs
        go NotThere q i = absurd (let z : ◌≡◌ {A = ℕ} 0 1 = cc in omega arith)
        go (There c) q i = let d : v.opened ≡ is_open c.phase = cc in g c (by_tag_mem k.to cs c q).1 (partner_is v c i) d q

    pub hearing_other : (partner_of v ≡ Some k.from → ⊥) → on_hearing cfg o k (by_tag k.to cs) ≡ []
    hearing_other h = found [] (λ c _ a _ _. cond-false _ _ _ (peer_is-not (is_asked c.phase) c.theirs k.from (λ z. h (a ∙ z))))

    module _ (p : partner_of v ≡ Some k.from) where
      for_it : (c : Conn) → partner_of v ≡ peer_of c → (not (is_asked c.phase) && eqb c.theirs k.from) ≡ true
      for_it c a = let (x, y) = peer_parts (is_asked c.phase) c.theirs k.from (sym a ∙ p) in and_from _ _ x (eq-eqb _ _ y)

      pub hearing_answer : wants_answer k ≡ true → on_hearing cfg o k (by_tag k.to cs) ≡ Sends o k.to (upto_of (by_tag k.to cs)) cfg.size ∷ []
      hearing_answer w = found _ (λ c m a _ q. cond-true _ _ _ (for_it c a) ∙ cond-true _ _ _ w ∙ ap (λ z. Sends o z c.upto cfg.size ∷ []) m ∙ ap (λ f. Sends o k.to (upto_of f) cfg.size ∷ []) (sym q))

      pub hearing_quiet : wants_answer k ≡ false → is_yes k.kind ≡ false → on_hearing cfg o k (by_tag k.to cs) ≡ []
      hearing_quiet w y = found [] (λ c m a d _. cond-true _ _ _ (for_it c a) ∙ cond-false _ _ _ w ∙ cond-false _ _ _ (ap (λ z. z && is_open c.phase) y))

      pub hearing_half : wants_answer k ≡ false → v.opened ≡ false → on_hearing cfg o k (by_tag k.to cs) ≡ []
      hearing_half w y = found [] (λ c m a d _. cond-true _ _ _ (for_it c a) ∙ cond-false _ _ _ w ∙ cond-false _ _ _ (and_right (is_yes k.kind) _ (sym d ∙ y)))

      pub hearing_due : wants_answer k ≡ false → is_yes k.kind ≡ true → v.opened ≡ true → on_hearing cfg o k (by_tag k.to cs) ≡ Due o k.to ∷ []
      hearing_due w y z = found _ (λ c m a d _. cond-true _ _ _ (for_it c a) ∙ cond-false _ _ _ w ∙ cond-true _ _ _ (and_from _ _ y (sym d ∙ z)) ∙ ap (λ u. Due o u ∷ []) m)

pub answers_are : (cfg : m.Settings) (p : Pair) (w : World) → Shows cfg p w → (o : Who) (t : ℕ) → answers p o t w ≡ Sends o t (upto_of (by_tag t (end o w).conns)) cfg.size ∷ []
answers_are cfg p w s o t = ap (λ z. Sends o t (upto_of (by_tag t (end o w).conns)) z.size ∷ []) (s.settings o)

-- the latest packet came, and what its connection says to it
module _ (p q : Pair) (o : Who) (x : Packet) (came : HeardLatest p q o (Ok x)) where
  brought : (r : Pair) (n : ℕ) → ((cfg : m.Settings) (es : List Ev) → Shows cfg q (world cfg (Hears o 0 0 ∷ es)) →
      (fs : List Ev) × (on_hearing cfg o (packet x) (by_tag x.head.to (end o (world cfg (Hears o 0 0 ∷ es))).conns) ≡ fs) × (length fs + 1 ≡ n) × Shows cfg r (world cfg (fs ++ (Hears o 0 0 ∷ es)))) → Made1 p r (Brings o 0 0) (Ok n)
  unfolding on_nth world
  brought r n g cfg es s =
      let (qs, net) = came.0 in let (fs, e, l, t) = g cfg es (came.1 cfg es s) in
      makes_as cfg r es (fs ++ (Hears o 0 0 ∷ [])) _ n
      (ap (λ z. on_nth cfg o 0 z (end o (world cfg (Hears o 0 0 ∷ es))).conns ++ (Hears o 0 0 ∷ [])) (s.came o ∙ net) ∙ ap (λ z. z ++ (Hears o 0 0 ∷ [])) e)
      (length-append fs (Hears o 0 0 ∷ []) ∙ l) (subst (λ z. Shows cfg r (world cfg z)) (sym (append_assoc fs (Hears o 0 0 ∷ []) es)) t)

  pub brings_err : (r : Pair) → Does q r (λ _. []) → Goes p r
  brings_err r d cfg es s = (Hears o 0 0 ∷ [], d cfg (Hears o 0 0 ∷ es) (came.1 cfg es s))

  pub brings_none : Seen q o x.head.to None → Made1 p q (Brings o 0 0) (Ok 1)
  brings_none n = brought q 1 (λ cfg es h. ([], hearing_none cfg o (packet x) _ (n cfg _ h), refl, h))

  module _ (v : View) (seen : Seen q o x.head.to (Some v)) where
    pub brings_other : (partner_of v ≡ Some x.head.from → ⊥) → Made1 p q (Brings o 0 0) (Ok 1)
    brings_other a = brought q 1 (λ cfg es h. ([], hearing_other cfg o (packet x) _ v (seen cfg _ h) a, refl, h))

    module _ (k : partner_of v ≡ Some x.head.from) where
      pub brings_answer : (r : Pair) → wants_answer (packet x) ≡ true → Does q r (answers q o x.head.to) → Made1 p r (Brings o 0 0) (Ok 2)
      brings_answer r a d = brought r 2 (λ cfg es h.
          (_, hearing_answer cfg o (packet x) _ v (seen cfg _ h) k a, refl, subst (λ z. Shows cfg r (world cfg (z ++ (Hears o 0 0 ∷ es)))) (answers_are cfg q _ h o x.head.to) (d cfg (Hears o 0 0 ∷ es) h)))

      pub brings_due : (r : Pair) → wants_answer (packet x) ≡ false → is_yes (packet x).kind ≡ true → v.opened ≡ true → Does q r (λ _. Due o x.head.to ∷ []) → Made1 p r (Brings o 0 0) (Ok 2)
      brings_due r a b c d = brought r 2 (λ cfg es h. (_, hearing_due cfg o (packet x) _ v (seen cfg _ h) k a b c, refl, d cfg (Hears o 0 0 ∷ es) h))

      pub brings_quiet : wants_answer (packet x) ≡ false → is_yes (packet x).kind ≡ false → Made1 p q (Brings o 0 0) (Ok 1)
      brings_quiet a b = brought q 1 (λ cfg es h. ([], hearing_quiet cfg o (packet x) _ v (seen cfg _ h) k a b, refl, h))

      pub brings_half : wants_answer (packet x) ≡ false → v.opened ≡ false → Made1 p q (Brings o 0 0) (Ok 1)
      brings_half a b = brought q 1 (λ cfg es h. ([], hearing_half cfg o (packet x) _ v (seen cfg _ h) k a b, refl, h))
