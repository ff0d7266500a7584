-- Every event of the model is a move by the rules. Each theorem on all that can happen goes by moves, and not by events. Assumes nothing.
use Rattle.std.proofs.Common.{◌≡◌, ℕ, zero, suc, ◌+◌, ◌-◌, true, not, ◌&&◌, eqb, List, [], ◌∷◌, length, take, drop, sym, refl, ap, subst, arith}
use mathlib.Core.List.Memᴰ
use mathlib.Core.List.{Memᴰ}
use Rattle.std.proofs.lemmas.Bool.{cond_both, and_parts, or_parts, eqb-true, not-true}
use Rattle.hold.specs.Packet.{Settings, Packet, Kind, Ask, Yes, Text, Bye, bare, larger, lower}
use Rattle.hold.specs.Conn.{Conn, Phase, Asked, Half, Open, Gone, in_phase, open_with, gives, closes, takes, hears, says, due}
use Rattle.hold.specs.World.{Who, World, Ev, Listens, Opens, Due, Gives, Closes, Takes, Sends, Breaks, Forgets, Hears, end, coming_to, put, changed, is_open, is_asked, by_tag, by_theirs, Found, NotThere, There, says_if, due_by, due_if, bye_if, on_ask, on_yes, on_text, on_bye, on_kind, hears_nth, step}
use Rattle.hold.specs.Promise.{tags, apart}
use Rattle.hold.specs.Rules.{Told, Said, asking, yes_of, truthful, bye, AllSaid, Edit, given-more, closed-now, taken_more, gone-now, opened-by, heard-by, Move, stays, listens, tells, edits, asks, answers}
use Rattle.hold.proofs.Bricks.{stands_take, stands_drop}
use Rattle.hold.proofs.Table.{one_tag, by_tag_mem, by_theirs_mem}

-- a text that is a part of what was given
abbrev cut : Settings → ℕ → ℕ → Conn → Packet
cut cfg p n c = record {
  kind = Text;
  from = c.mine;
  to = c.theirs;
  place = p;
  text = take n (drop p c.given);
  last = c.closed && not c.all && eqb (p + length (take n (drop p c.given))) (length c.given);
  upto = length c.got;
  all = c.ended;
  edge = c.taken + cfg.room;
}

cut_told : (cfg : Settings) (p n : ℕ) (c : Conn) → Told cfg (cut cfg p n c) c
cut_told cfg p n c = record {
  bytes = λ i b s. stands_drop p i b c.given (stands_take i b n (drop p c.given) s);
  last = λ h. let (u, v) = and_parts _ _ h in ((and_parts _ _ u).0, eqb-true _ _ v);
  upto = omega arith;
  all = λ h. h;
  edge = omega arith;
}

module _ (cfg : Settings) (w : World) (apart-at : (o : Who) → apart (tags (end o w).conns) ≡ true) where
  none : {X : Type 0} {p : Packet} → Memᴰ p [] → X
  none m = absurd (Memᴰ.not-nil m)

  tells_one : (o : Who) (p : Packet) → Said cfg (end o w).conns p → Move cfg w (put o (end o w) (p ∷ []) [] w)
  tells_one o p s = tells o (p ∷ []) (λ q m. rw (Memᴰ.eq_of_singleton m) s)

  tells_none : (o : Who) → Move cfg w (put o (end o w) [] [] w)
  tells_none o = tells o [] (λ _ m. none m)

  -- an edit of the one connection that was found
  module _ (o : Who) (p : Packet) (x : Conn) (e : by_tag p.to (end o w).conns ≡ There x) where
    at_x : (f : Conn → Conn) → ((c : Conn) → (f c).mine ≡ c.mine) → Edit cfg (coming_to o w) x (f x) → Move cfg w (put o (changed x.mine f (end o w)) [] [] w)
    at_x f k g = edits o x.mine f [] k (λ c m q _. subst (λ z. Edit cfg (coming_to o w) z (f z)) (one_tag _ x c (apart-at o) (by_tag_mem _ _ x e).0 m (sym q)) g) (λ _ m. none m)

  module _ (o : Who) (p : Packet) (t : ℕ) (m : Memᴰ p (coming_to o w)) where
    on_ask_lem : p.kind ≡ Ask → (f : Found) → by_theirs p.from (end o w).conns ≡ f → Move cfg w (on_ask o p t f w)
    on_ask_lem k (There c) e = let (n, h, a) = by_theirs_mem _ _ c e in tells_one o _ (yes_of c n a)
    on_ask_lem k NotThere e = cond_both _ _ _ (Move cfg w) (λ h. let (u, v) = and_parts _ _ (and_parts _ _ h).1 in answers o p t [] m k (not-true _ u) (not-true _ v) (p.text, refl) (omega arith)) (λ _. stays)

    on_yes_lem : p.kind ≡ Yes → (f : Found) → by_tag p.to (end o w).conns ≡ f → Move cfg w (on_yes o p f w)
    on_yes_lem k NotThere e = tells_one o _ (bye _ _)
    on_yes_lem k (There c) e = cond_both _ _ _ (Move cfg w) (λ h. at_x o p c e (open_with p.from) (λ _. refl) (opened-by p m k (by_tag_mem _ _ c e).1 h))
        (λ _. cond_both _ _ _ (Move cfg w) (λ _. stays) (λ _. tells_one o _ (bye _ _)))

    on_text_lem : p.kind ≡ Text → (f : Found) → by_tag p.to (end o w).conns ≡ f → Move cfg w (on_text cfg o p f w)
    on_text_lem k NotThere e = tells_one o _ (bye _ _)
    on_text_lem k (There c) e = cond_both _ _ _ (Move cfg w) (λ h. let (a, b) = and_parts _ _ h in
        at_x o p c e (λ d. hears cfg p (open_with p.from d)) (λ _. refl) (heard-by _ p m k (by_tag_mem _ _ c e).1 (eqb-true _ _ b) (not-true _ a))) (λ _. stays)

    on_bye_lem : (f : Found) → by_tag p.to (end o w).conns ≡ f → Move cfg w (on_bye o p f w)
    on_bye_lem NotThere e = stays
    on_bye_lem (There c) e = cond_both _ _ _ (Move cfg w) (λ _. at_x o p c e (in_phase Gone) (λ _. refl) gone-now) (λ _. stays)

    on_kind_lem : (k : Kind) → p.kind ≡ k → Move cfg w (on_kind cfg o p t k w)
    on_kind_lem Ask k = on_ask_lem k _ refl
    on_kind_lem Yes k = on_yes_lem k _ refl
    on_kind_lem Text k = on_text_lem k _ refl
    on_kind_lem Bye k = on_bye_lem _ refl

  nth : (o : Who) (i t : ℕ) (ps : List Packet) → ((p : Packet) → Memᴰ p ps → Memᴰ p (coming_to o w)) → Move cfg w (hears_nth cfg o i t ps w)
  unfolding hears_nth
  nth o i t [] g = stays
  nth o zero t (p ∷ ps) g = on_kind_lem o p t (g p (Memᴰ.head refl)) p.kind refl
  nth o (suc i) t (p ∷ ps) g = nth o i t ps (λ q m. g q (Memᴰ.tail m))

  -- a user's edit
  by_user : (o : Who) (t : ℕ) (f : Conn → Conn) → ((c : Conn) → (f c).mine ≡ c.mine) → ((c : Conn) → Edit cfg (coming_to o w) c (f c)) → Move cfg w (put o (changed t f (end o w)) [] [] w)
  by_user o t f k g = edits o t f [] k (λ c _ _ _. g c) (λ _ m. none m)

  due-said : (cs : List Conn) (c : Conn) → Memᴰ c cs → (h : Phase) → c.phase ≡ h → AllSaid cfg cs (due_by cfg c h)
  due-said cs c m Asked e p n = rw (Memᴰ.eq_of_singleton n) (asking c (bare Ask c.mine 0) m (ap is_asked e) refl refl (c.given, refl))
  due-said cs c m Half e p n = rw (Memᴰ.eq_of_singleton n) (yes_of c m (ap is_asked e))
  due-said cs c m Open e p n = rw (Memᴰ.eq_of_singleton n) (truthful c (due cfg c) m (ap is_open e) refl refl refl (cut_told cfg c.upto (larger 1 (lower cfg.size (c.sees - c.upto))) c))
  due-said cs c m Gone e p n = none n

  due_if_lem : (cs : List Conn) (t : ℕ) (f : Found) → by_tag t cs ≡ f → AllSaid cfg cs (due_if cfg f)
  due_if_lem cs t NotThere e p n = none n
  due_if_lem cs t (There c) e p n = due-said cs c (by_tag_mem _ _ c e).0 c.phase refl p n

  says_if_lem : (cs : List Conn) (t p k : ℕ) (f : Found) → by_tag t cs ≡ f → AllSaid cfg cs (says_if cfg p k f)
  says_if_lem cs t p k NotThere e = λ _ m. none m
  says_if_lem cs t p k (There c) e = cond_both (is_open c.phase) (says cfg p k c ∷ []) [] (AllSaid cfg cs) (λ h q n. rw (Memᴰ.eq_of_singleton n) (truthful c (says cfg p k c) (by_tag_mem _ _ c e).0 h refl refl refl (cut_told cfg p (lower k (c.sees - p)) c))) (λ _ _ m. none m)

  bye_if_lem : (f : Found) (p : Packet) → Memᴰ p (bye_if f) → (x : ℕ) × (y : ℕ) × (p ≡ bare Bye x y)
  bye_if_lem NotThere = λ _ m. none m
  bye_if_lem (There c) = cond_both (is_asked c.phase) _ _ (λ ps. (p : Packet) → Memᴰ p ps → (x : ℕ) × (y : ℕ) × (p ≡ bare Bye x y)) (λ _ _ m. none m) (λ _ p n. (c.mine, c.theirs, Memᴰ.eq_of_singleton n))

  pub moves : (e : Ev) → Move cfg w (step cfg e w)
  moves (Listens o b) = listens o b
  moves (Opens o t) = cond_both _ _ _ (Move cfg w) (λ _. stays) (λ h. let (a, b) = or_parts _ _ h in asks o t a b)
  moves (Due o t) = tells o _ (due_if_lem _ t _ refl)
  moves (Gives o t bs) = by_user o t (gives bs) (λ _. refl) (λ _. given-more bs)
  moves (Closes o t) = by_user o t closes (λ _. refl) (λ _. closed-now)
  moves (Takes o t k) = by_user o t (takes k) (λ _. refl) (λ _. taken_more k)
  moves (Sends o t p k) = tells o _ (says_if_lem _ t p k _ refl)
  moves (Breaks o t) = edits o t (in_phase Gone) _ (λ _. refl) (λ _ _ _ _. gone-now) (bye_if_lem (by_tag t (end o w).conns))
  moves (Forgets o t) = by_user o t (in_phase Gone) (λ _. refl) (λ _. gone-now)
  moves (Hears o i t) = nth o i t _ (λ _ m. m)
