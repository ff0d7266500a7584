-- What is true of every world that can come to be. Assumes nothing.
use Rattle.std.proofs.Common.{◌≡◌, ℕ, true, false, eqb, ◌⊎◌, List, [], ◌∷◌, ◌++◌, sym, refl, subst, inl, inr, ⊎_elim, arith}
use mathlib.Core.List.Memᴰ
use mathlib.Core.List.{Memᴰ}
use Rattle.std.proofs.lemmas.Bool.{or_cases, or_left, or_right}
use Rattle.hold.specs.Packet.{Settings, Packet, Ask, Yes, Bye, bare}
use Rattle.hold.specs.Conn.{Conn, Phase, Asked, NotSaid, new}
use Rattle.hold.specs.World.{Who, L, R, End, World, Ev, start, end, other, coming_to, put, added, change, is_in, is_open, is_asked, world}
use Rattle.hold.specs.Promise.{At, tags, apart}
use Rattle.hold.specs.Rules.{Front, Move, Said, answers, asking, asks, bye, edits, half_new, is_half, listens, stays, tells, truthful, yes_of}
use Rattle.hold.proofs.Bricks.{false_true}
use Rattle.hold.proofs.Table.{Into, Changed, into_change, mem_change, tags-change, apart-left, apart_right, apart-insert}
use Rattle.hold.proofs.Moves.{moves}
use Rattle.hold.proofs.Truth.{Grows, grows_same, TrueOf, true_grows, Linked, LocalOf, Local, Tie, Facts, Gave, gave_of, front-front, linked_grows, Caller, Asker, Fresh, nothing}
use Rattle.hold.proofs.Edits.{edit_grows, edit_linked}

-- packets that are said are true
asked_not_half : (c : Conn) → is_asked c.phase ≡ true → Asker c
asked_not_half c e h = let r : is_half c.phase ≡ false = grind arith in false_true _ r h

pub open-settled : (h : Phase) → is_open h ≡ true → is_asked h ≡ false
open-settled h e = grind arith

said_true : (cfg : Settings) (cs : List Conn) (p : Packet) → Said cfg cs p → TrueOf cfg p.kind p cs
said_true cfg cs p (yes_of c m a) = (c, m, (refl, refl, a))
said_true cfg cs p (bye a b) = tt
said_true cfg cs p (truthful c q m a k f t l) = subst (λ z. TrueOf cfg z p cs) (sym k) (c, m, (sym f, sym t, open-settled c.phase a), l)
said_true cfg cs p (asking c q m a k f t) = subst (λ z. TrueOf cfg z p cs) (sym k) (c, m, sym f, asked_not_half c a, t)

-- tags
abbrev all_tags : World → List ℕ
all_tags w = tags (end L w).conns ++ tags (end R w).conns

pub record TagInv (w : World) : Type 0 where
  pub apart_all : apart (all_tags w) ≡ true
  pub drawn_all : (t : ℕ) → is_in t (all_tags w) ≡ true → is_in t w.drawn ≡ true

pub apart-at : (w : World) → TagInv w → (o : Who) → apart (tags (end o w).conns) ≡ true
apart-at w i L = apart-left _ _ i.apart_all
apart-at w i R = apart_right (tags (end L w).conns) _ i.apart_all

tag_same : (o : Who) (e : End) (ps : List Packet) (w : World) → tags e.conns ≡ tags (end o w).conns → TagInv w → TagInv (put o e ps [] w)
tag_same L e ps w q i = record { apart_all = rw q i.apart_all; drawn_all = rw q i.drawn_all }
tag_same R e ps w q i = record { apart_all = rw q i.apart_all; drawn_all = rw q i.drawn_all }

in_insert : (xs ys : List ℕ) (t u : ℕ) → is_in u (xs ++ (t ∷ ys)) ≡ true → (eqb t u ≡ true) ⊎ (is_in u (xs ++ ys) ≡ true)
unfolding is_in
in_insert [] ys t u h = or_cases _ _ h
in_insert (x ∷ xs) ys t u h = let r = in_insert xs ys t u in grind arith

not_there : (w : World) (t : ℕ) → TagInv w → is_in t w.drawn ≡ false → is_in t (all_tags w) ≡ false
not_there w t i f = let r = i.drawn_all t in grind arith

more_drawn : (w : World) (t u : ℕ) → TagInv w → (eqb t u ≡ true) ⊎ (is_in u (all_tags w) ≡ true) → is_in u (t ∷ w.drawn) ≡ true
unfolding is_in
more_drawn w t u i (inl a) = or_left _ _ a
more_drawn w t u i (inr a) = or_right _ _ (i.drawn_all u a)

tag_new : (o : Who) (e : End) (ps : List Packet) (t : ℕ) (w : World) → tags e.conns ≡ t ∷ tags (end o w).conns → is_in t w.drawn ≡ false → TagInv w → TagInv (put o e ps (t ∷ []) w)
tag_new L e ps t w q f i = record { apart_all = rw q (apart-insert [] (all_tags w) t i.apart_all (not_there w t i f)); drawn_all = rw q (λ u h. more_drawn w t u i (in_insert [] (all_tags w) t u h)) }
tag_new R e ps t w q f i = record { apart_all = rw q (apart-insert (tags (end L w).conns) _ t i.apart_all (not_there w t i f)); drawn_all = rw q (λ u h. more_drawn w t u i (in_insert (tags (end L w).conns) _ t u h)) }

-- the rest
abbrev pub Sent : Settings → World → Type 0
Sent cfg w = (o : Who) (p : Packet) → Memᴰ p (coming_to (other o) w) → TrueOf cfg p.kind p (end o w).conns

abbrev pub AllLinked : Settings → World → Type 0
AllLinked cfg w = (o : Who) (c : Conn) → At o w c → Linked cfg c (end (other o) w).conns

put-sent : (cfg : Settings) (o : Who) (e : End) (ps : List Packet) (ts : List ℕ) (w : World) → Into Grows (end o w).conns e.conns → ((p : Packet) → Memᴰ p ps → TrueOf cfg p.kind p e.conns) → Sent cfg w → Sent cfg (put o e ps ts w)
put-sent cfg L e ps ts w into are old L p m = ⊎_elim (are p) (λ n. true_grows cfg p.kind p _ _ into (old L p n)) (Memᴰ.append_cases ps m)
put-sent cfg L e ps ts w into are old R p m = old R p m
put-sent cfg R e ps ts w into are old L p m = old L p m
put-sent cfg R e ps ts w into are old R p m = ⊎_elim (are p) (λ n. true_grows cfg p.kind p _ _ into (old R p n)) (Memᴰ.append_cases ps m)

put_linked : (cfg : Settings) (o : Who) (e : End) (ps : List Packet) (ts : List ℕ) (w : World) → Into Grows (end o w).conns e.conns → ((c : Conn) → Memᴰ c e.conns → Linked cfg c (end (other o) w).conns) →
    AllLinked cfg w → AllLinked cfg (put o e ps ts w)
put_linked cfg L e ps ts w into are old L c m = are c m
put_linked cfg L e ps ts w into are old R c m = linked_grows cfg c _ _ into (old R c m)
put_linked cfg R e ps ts w into are old L c m = linked_grows cfg c _ _ into (old L c m)
put_linked cfg R e ps ts w into are old R c m = are c m

pub record Inv (cfg : Settings) (w : World) : Type 0 where
  pub tagged : TagInv w
  pub sent : Sent cfg w
  pub linked : AllLinked cfg w

same_into : (cs : List Conn) → Into Grows cs cs
same_into cs c m = (c, m, grows_same c)

new_into : (x : Conn) (cs : List Conn) → Into Grows cs (x ∷ cs)
new_into x cs c m = (c, Memᴰ.tail m, grows_same c)

-- packets that come to an end are true of the other's connections
coming : (cfg : Settings) (w : World) → Sent cfg w → (o : Who) (p : Packet) → Memᴰ p (coming_to o w) → TrueOf cfg p.kind p (end (other o) w).conns
coming cfg w s L p m = s R p m
coming cfg w s R p m = s L p m

-- a new connection, with the packet that is sent for it
fresh-new : Fresh false nothing
fresh-new = record { not_opened = refl; is_nothing = refl }

empty_local : (cfg : Settings) → Local cfg [] 0 []
empty_local cfg = record { taken_got = omega arith; got_room = omega arith; kept_room = λ x m. absurd (Memᴰ.not-nil m) }

words_facts : (cfg : Settings) (ws : List ℕ) (g : Gave) → Front ws g.given → Facts cfg (record { got = ws; kept = []; end = NotSaid; ended = false; upto = 0; all = false; sees = 0 }) g
words_facts cfg ws g f = record { kept_true = λ x m. absurd (Memᴰ.not-nil m); front = f; end_true = λ q h. grind arith; end_heard = λ h. grind arith; told = λ q h. grind arith; came = omega arith; all_came = λ h. grind arith; edge_true = omega arith }

added_inv : (cfg : Settings) (o : Who) (w : World) (c : Conn) (p : Packet) → is_in c.mine w.drawn ≡ false → (is_open c.phase ≡ true → c.opened ≡ true) → Caller (is_half c.phase) c.theirs (end (other o) w).conns → Tie cfg c (end (other o) w).conns → LocalOf cfg c →
    TrueOf cfg p.kind p (c ∷ (end o w).conns) → Inv cfg w → Inv cfg (put o (added c (end o w)) (p ∷ []) (c.mine ∷ []) w)
unfolding tags
added_inv cfg o w c p n a b f z t i = record {
  tagged = tag_new o (added c (end o w)) (p ∷ []) c.mine w refl n i.tagged;
  sent = put-sent cfg o _ (p ∷ []) (c.mine ∷ []) w (new_into c _) (λ q m. subst (λ z. TrueOf cfg z.kind z (c ∷ (end o w).conns)) (sym (Memᴰ.eq_of_singleton m)) t) i.sent;
  linked = put_linked cfg o _ (p ∷ []) (c.mine ∷ []) w (new_into c _) (λ x m. ⊎_elim (λ e. rw e newly) (i.linked o x) (Memᴰ.cases_cons m)) i.linked;
}
  where
    newly : Linked cfg c (end (other o) w).conns
    newly = record { local = z; open_opened = a; caller = b; tie = f }

pub move_inv : (cfg : Settings) (w v : World) → Move cfg w v → Inv cfg w → Inv cfg v
move_inv cfg w v stays i = i
move_inv cfg w v (listens o b) i = record {
  tagged = tag_same o _ [] w refl i.tagged;
  sent = put-sent cfg o _ [] [] w (same_into _) (λ _ m. absurd (Memᴰ.not-nil m)) i.sent;
  linked = put_linked cfg o _ [] [] w (same_into _) (i.linked o) i.linked;
}
move_inv cfg w v (tells o ps s) i = record {
  tagged = tag_same o _ ps w refl i.tagged;
  sent = put-sent cfg o _ ps [] w (same_into _) (λ p m. said_true cfg _ p (s p m)) i.sent;
  linked = put_linked cfg o _ ps [] w (same_into _) (i.linked o) i.linked;
}
move_inv cfg w v (edits o t f ps k g b) i = record {
  tagged = tag_same o _ ps w (tags-change t f _ k) i.tagged;
  sent = put-sent cfg o _ ps [] w into (λ p m. byes p (b p m)) i.sent;
  linked = put_linked cfg o _ ps [] w into (λ c m. ⊎_elim (i.linked o c) edited (mem_change t f _ c m)) i.linked;
}
  where
    into : Into Grows (end o w).conns (change t f (end o w).conns)
    into = into_change Grows grows_same t f (end o w).conns (λ c m q h. edit_grows cfg _ c (f c) (g c m q h) (i.linked o c m).local)

    byes : (p : Packet) → (x : ℕ) × (y : ℕ) × (p ≡ bare Bye x y) → TrueOf cfg p.kind p (change t f (end o w).conns)
    byes p (x, y, e) = rw e tt

    edited : {c : Conn} → Changed t f (end o w).conns c → Linked cfg c (end (other o) w).conns
    edited (d, m, q, h, e) = rw e (edit_linked cfg (coming_to o w) _ (coming cfg w i.sent o) (apart-at w i.tagged (other o)) d (f d) (g d m q h) (i.linked o d m))
move_inv cfg w v (asks o t n z) i = added_inv cfg o w (new Asked t 0) (bare Ask t 0) n (λ h. false_true _ refl h) (λ h. false_true _ refl h) (inl fresh-new) (empty_local cfg) (new Asked t 0, Memᴰ.head refl, refl, (λ h. false_true _ refl h), ([], refl)) i
move_inv cfg w v (answers o p t ws m k n z front fits) i = go (subst (λ z. TrueOf cfg z p (end (other o) w).conns) k (coming cfg w i.sent o p m))
  where
    go : TrueOf cfg Ask p (end (other o) w).conns → Inv cfg (put o (added (half_new t p.from ws) (end o w)) (bare Yes t p.from ∷ []) (t ∷ []) w)
    go (d, j, q, h, f) = added_inv cfg o w (half_new t p.from ws) (bare Yes t p.from) n (λ h. false_true _ refl h) (λ _. (d, j, q, h))
        (inr (refl, inl (record { not_opened = refl; caller = d; there = j; calls = q; facts = words_facts cfg ws (gave_of d) (front-front _ _ _ front f) })))
        (record { taken_got = omega arith; got_room = omega (arith, fits); kept_room = λ x m. absurd (Memᴰ.not-nil m) }) (half_new t p.from ws, Memᴰ.head refl, (refl, refl, refl)) i

empty_tags : TagInv start
unfolding tags is_in apart
empty_tags = record { apart_all = refl; drawn_all = λ t h. h }

pub inv : (cfg : Settings) (es : List Ev) → Inv cfg (world cfg es)
unfolding world
inv cfg [] = record { tagged = empty_tags; sent = no_packet; linked = nobody }
  where
    no_packet : Sent cfg start
    no_packet L p m = absurd (Memᴰ.not-nil m)
    no_packet R p m = absurd (Memᴰ.not-nil m)

    nobody : AllLinked cfg start
    nobody L c m = absurd (Memᴰ.not-nil m)
    nobody R c m = absurd (Memᴰ.not-nil m)
inv cfg (e ∷ es) = move_inv cfg _ _ (moves cfg (world cfg es) (apart-at _ (inv cfg es).tagged) e) (inv cfg es)
