-- An ideal code, whose states are the ends themselves: it shows that no field of `Code` and `Clocks` contradicts another, and counts for nothing else. Assumes nothing.
use Rattle.std.proofs.Common.{◌≡◌, ℕ, ◌≤◌, Bool, true, false, cond, not, ◌&&◌, ◌||◌, eqb, leb, List, [], ◌∷◌, ◌++◌, sym, refl, ap, ◌∙◌, subst, arith}
use mathlib.Core.List.{Memᴰ}
use Rattle.std.proofs.lemmas.Bool.{and_parts, cond-true, cond-false, leb-true}
use Rattle.hold.specs.Packet.{Settings, Packet, Kind, Ask, Yes, Text, Bye, bare}
use Rattle.hold.specs.Conn.{Conn, Asked, new, says}
use Rattle.hold.specs.World.{Who, L, R, End, World, Ev, start, Listens, Opens, Due, Gives, Closes, Takes, Sends, Breaks, Forgets, Hears, end, other, coming_to, put, added, is_in, is_asked, on_ask, on_yes, on_text, on_bye, on_kind, step, Found, NotThere, There, by_tag}
use Rattle.hold.specs.Code.{Code, Clocks, SameEnd, CodeCanBe, Turn, same_who, of_end, idle, forget_all, due_all, done_by, sent_by, asked_by, answered_by, told_by, broken_by, heard_by, send_fits}
use Rattle.hold.specs.Promise.{tags}
use Rattle.hold.proofs.Bricks.{false_true, true→T}
use Rattle.hold.proofs.Table.{mem_tags}
use Rattle.hold.proofs.Puts.{end-put, coming-put}

who_same : (o p : Who) → same_who o p ≡ true → p ≡ o
who_same L L h = refl
who_same L R h = false_true _ refl h
who_same R L h = false_true _ refl h
who_same R R h = refl

-- a world in which end o has become e, and has sent ps
pub record Does (o : Who) (w : World) (e : End) (ps : List Packet) (v : World) : Type 0 where
  pub becomes : end o v ≡ e
  pub sends : coming_to (other o) v ≡ ps ++ coming_to (other o) w

by_put : (o : Who) (w : World) (e : End) (ps : List Packet) (ts : List ℕ) → Does o w e ps (put o e ps ts w)
by_put o w e ps ts = record { becomes = end-put o e ps ts w; sends = coming-put o e ps ts w }

by_none : (o : Who) (w : World) → Does o w (end o w) [] w
by_none o w = record { becomes = refl; sends = refl }

module _ (cfg : Settings) (o : Who) (w : World) where
  opens : (t : ℕ) (a b : Bool) → a ≡ false → Does o w (cond b (end o w) (added (new Asked t 0) (end o w))) (cond b [] (bare Ask t 0 ∷ []))
      (cond (a || b) w (put o (added (new Asked t 0) (end o w)) (bare Ask t 0 ∷ []) (t ∷ []) w))
  opens t true b h = false_true _ h refl
  opens t false true h = by_none o w
  opens t false false h = by_put o w _ _ _

  pub does_at : (e : Ev) → of_end o e ≡ true → ((p : Who) (t : ℕ) → e ≡ Opens p t → is_in t w.drawn ≡ false) → Does o w (done_by e (end o w)) (sent_by cfg e (end o w)) (step cfg e w)
  does_at (Listens p b) h f = rw (who_same o p h) (by_put o w _ _ _)
  does_at (Opens p t) h f = rw (who_same o p h) (opens t (is_in t w.drawn) (eqb t 0) (f p t refl))
  does_at (Due p t) h f = rw (who_same o p h) (by_put o w _ _ _)
  does_at (Gives p t bs) h f = rw (who_same o p h) (by_put o w _ _ _)
  does_at (Closes p t) h f = rw (who_same o p h) (by_put o w _ _ _)
  does_at (Takes p t k) h f = rw (who_same o p h) (by_put o w _ _ _)
  does_at (Sends p t q k) h f = rw (who_same o p h) (by_put o w _ _ _)
  does_at (Breaks p t) h f = rw (who_same o p h) (by_put o w _ _ _)
  does_at (Forgets p t) h f = rw (who_same o p h) (by_put o w _ _ _)
  does_at (Hears p i t) h f = false_true _ refl h

abbrev DoesT : Who → World → Turn → World → Type 0
DoesT o w u v = Does o w u.now u.sent v

-- a choice on both sides by one test
both : (o : Who) (w : World) (b : Bool) (u₁ u₂ : Turn) (v₁ v₂ : World) → DoesT o w u₁ v₁ → DoesT o w u₂ v₂ → DoesT o w (cond b u₁ u₂) (cond b v₁ v₂)
both o w true u₁ u₂ v₁ v₂ d e = d
both o w false u₁ u₂ v₁ v₂ d e = e

module _ (cfg : Settings) (o : Who) (w : World) (p : Packet) (t : ℕ) (n : is_in t w.drawn ≡ false) where
  ask_at : (f : Found) → DoesT o w (asked_by p t f (end o w)) (on_ask o p t f w)
  ask_at (There c) = by_put o w _ _ _
  ask_at NotThere = rw n (both o w ((end o w).listens && not (eqb t 0)) _ _ _ _ (by_put o w _ _ _) (by_none o w))

  yes_at : (f : Found) → DoesT o w (answered_by p f (end o w)) (on_yes o p f w)
  yes_at NotThere = by_put o w _ _ _
  yes_at (There c) = both o w (is_asked c.phase) _ _ _ _ (by_put o w _ _ _) (both o w (eqb c.theirs p.from) _ _ _ _ (by_none o w) (by_put o w _ _ _))

  text_at : (f : Found) → DoesT o w (told_by cfg p f (end o w)) (on_text cfg o p f w)
  text_at NotThere = by_put o w _ _ _
  text_at (There c) = both o w (not (is_asked c.phase) && eqb c.theirs p.from) _ _ _ _ (by_put o w _ _ _) (by_none o w)

  bye_at : (f : Found) → DoesT o w (broken_by p f (end o w)) (on_bye o p f w)
  bye_at NotThere = by_none o w
  bye_at (There c) = both o w (not (is_asked c.phase) && eqb c.theirs p.from) _ _ _ _ (by_put o w _ _ _) (by_none o w)

  pub kind_at : (k : Kind) → DoesT o w (heard_by cfg p t k (end o w)) (on_kind cfg o p t k w)
  kind_at Ask = ask_at _
  kind_at Yes = yes_at (by_tag p.to (end o w).conns)
  kind_at Text = text_at (by_tag p.to (end o w).conns)
  kind_at Bye = bye_at (by_tag p.to (end o w).conns)

abbrev answer_to : Settings → Found → List Packet
answer_to cfg NotThere = []
answer_to cfg (There d) = says cfg d.upto cfg.size d ∷ []

-- what fits: anything but a text that begins below upto or is too long
abbrev fits : Settings → Ev → End → Bool
fits cfg (Listens o b) s = true
fits cfg (Opens o t) s = true
fits cfg (Due o t) s = true
fits cfg (Gives o t bs) s = true
fits cfg (Closes o t) s = true
fits cfg (Takes o t k) s = true
fits cfg (Sends o t p k) s = send_fits cfg p k (by_tag t s.conns)
fits cfg (Breaks o t) s = true
fits cfg (Forgets o t) s = true
fits cfg (Hears o i t) s = true

-- Of any test of what fits: what doesn't is refused, what does is done.
module _ (cfg : Settings) (would_take : Ev → End → Bool) where
  abbrev pub done_if : Ev → End → End
  done_if e s = cond (would_take e s) (done_by e s) s

  abbrev pub sent_if : Ev → End → List Packet
  sent_if e s = cond (would_take e s) (sent_by cfg e s) []

  pub does_if : (o : Who) (e : Ev) → of_end o e ≡ true → (w : World) (s : End) → s ≡ end o w → would_take e s ≡ true → ((p : Who) (t : ℕ) → e ≡ Opens p t → is_in t w.drawn ≡ false) →
      (done_if e s ≡ end o (step cfg e w)) × (coming_to (other o) (step cfg e w) ≡ sent_if e s ++ coming_to (other o) w)
  does_if o e h w s q z f = let d = does_at cfg o w e h f in
      (cond-true _ (done_by e s) s z ∙ ap (done_by e) q ∙ sym d.becomes, d.sends ∙ ap (λ y. sent_by cfg e y ++ coming_to (other o) w) (sym q) ∙ ap (λ y. y ++ coming_to (other o) w) (sym (cond-true _ (sent_by cfg e s) [] z)))

  pub refuses_if : (e : Ev) (s x : End) → would_take e s ≡ false → s ≡ x → (done_if e s ≡ x) × (sent_if e s ≡ [])
  refuses_if e s x h q = (cond-false _ (done_by e s) s h ∙ q, cond-false _ (sent_by cfg e s) [] h)

pub hears-at : (cfg : Settings) (o : Who) (p : Packet) (t : ℕ) (w : World) (s : End) → s ≡ end o w → is_in t w.drawn ≡ false →
    ((heard_by cfg p t p.kind s).now ≡ end o (on_kind cfg o p t p.kind w)) × (coming_to (other o) (on_kind cfg o p t p.kind w) ≡ (heard_by cfg p t p.kind s).sent ++ coming_to (other o) w)
hears-at cfg o p t w s q n = let d = kind_at cfg o w p t n p.kind in (ap (λ y. (heard_by cfg p t p.kind y).now) q ∙ sym d.becomes, d.sends ∙ ap (λ y. (heard_by cfg p t p.kind y).sent ++ coming_to (other o) w) (sym q))

pub firsts : (o : Who) → record { conns = []; listens = false } ≡ end o start
firsts L = refl
firsts R = refl

ideal : (cfg : Settings) (most : ℕ) → Code cfg most End SameEnd
ideal cfg most = record {
  first = record { conns = []; listens = false };
  first_so = firsts;
  had = λ _ _. true;
  fits = fits cfg;
  call = done_if cfg (fits cfg);
  out = sent_if cfg (fits cfg);
  room_for = λ _. true;
  hears = λ p t s. (heard_by cfg p t p.kind s).now;
  out_of_hears = λ p t s. (heard_by cfg p t p.kind s).sent;
  does = does_if cfg (fits cfg);
  refuses = refuses_if cfg (fits cfg);
  hears_so = λ o p t w s q _ n _ _ _ _. hears-at cfg o p t w s q n;
  drops = λ p t s x _ _ h. false_true _ h refl;
  has_room = λ _ _ _ _. refl;
  opens_fit = λ _ _ _ _ _ _ _ _ _. refl;
  gives_fit = λ _ _ _ _ _ _ _ _ _ _ _ _ _. refl;
  others_fit = λ _ _ _ _ _. (refl, refl, refl, λ _ _ _ _ _. ((λ _. refl), refl, refl));
  only_had = λ _ _ _ _. refl;
  opened_had = λ _ _ _ _. refl;
  more = λ o t p k s x c q e f. sends_more cfg t p k s x c q e f;
}
  where
    sends_more : (cfg : Settings) (t p k : ℕ) (s x : End) (c : Conn) → s ≡ x → by_tag t x.conns ≡ There c → send_fits cfg p k (by_tag t s.conns) ≡ true → (c.upto ≤ p) × (k ≤ cfg.size)
    sends_more cfg t p k s x c q e f = let h = subst (λ z. send_fits cfg p k z ≡ true) (ap (λ z. by_tag t z.conns) q ∙ e) f in let (a, b) = and_parts (leb c.upto p) (leb k cfg.size) h in (leb-true _ _ a, leb-true _ _ b)

ideal_clocks : (cfg : Settings) (most : ℕ) → Clocks cfg most End SameEnd (ideal cfg most)
unfolding ideal idle forget_all due_all is_in
ideal_clocks cfg most = record {
  tick = λ s. s;
  tick_same = λ _ _ q. q;
  expires = λ _. [];
  clock = λ s. tags s.conns;
  comes = λ o s x c q m _. (0, omega arith, true→T _ (mem_tags _ c (subst (λ z. Memᴰ c z.conns) (sym q) m)));
  lasts = λ _ _ _ _ _ _. refl;
  answer = λ p t s. answer_to cfg (by_tag p.to (heard_by cfg p t p.kind s).now.conns);
  answers = λ p t s x d q e _ _ _. ap (λ z. answer_to cfg (by_tag p.to z.conns)) q ∙ ap (answer_to cfg) e;
}

pub code_can_be_lem : CodeCanBe
code_can_be_lem cfg most = (ideal cfg most, ideal_clocks cfg most)
