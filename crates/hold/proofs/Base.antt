-- The base itself is a transport in the sense of the wider promise, and keeps it. A pattern for wider ends. Assumes nothing.
use Rattle.std.proofs.Common.{◌≡◌, ℕ, zero, suc, ◌<◌, true, false, cond, not, ◌&&◌, T, eqb, ◌⊎◌, List, [], ◌∷◌, refl, ap, ◌∙◌, inl, inr, ⊎_elim, arith}
use mathlib.Core.List.Memᴰ
use mathlib.Core.List.{Memᴰ}
use Rattle.std.proofs.lemmas.Bool.{and_parts, cond_both}
use Rattle.hold.specs.Packet.{Settings, Packet, Kind, Ask, Yes, Text, Bye, bare}
use Rattle.hold.specs.Conn.{Conn, Half, Gone, new, in_phase, open_with, takes, hears}
use Rattle.hold.specs.World.{Who, L, R, End, World, Ev, Listens, Opens, Due, Gives, Closes, Takes, Sends, Breaks, Forgets, Hears, end, coming_to, put, changed, added, is_in, is_asked, by_tag, by_theirs, Found, NotThere, There, on_ask, on_yes, on_text, on_bye, on_kind, hears_nth, step, world}
use Rattle.hold.specs.Promise.{At, only_moves}
use Rattle.hold.specs.Wide.{View, Sees, base, after, Wider, MainFor, Quiet, view_of, views_of, mapped}
use Rattle.hold.proofs.Bricks.{true→T, false_true}
use Rattle.hold.proofs.Table.{mem_change}
use Rattle.hold.proofs.Sim.{Sim, in_views, views_in, sim_holding, sim_no_dead_end}

after-world : (cfg : Settings) (es : List Ev) → after (base cfg) es ≡ world cfg es
unfolding after world
after-world cfg [] = refl
after-world cfg (e ∷ es) = ap (step cfg e) (after-world cfg es)

mapped-same : (cfg : Settings) (es : List Ev) → mapped (base cfg) (λ e. e ∷ []) es ≡ es
unfolding mapped
mapped-same cfg [] = refl
mapped-same cfg (e ∷ es) = ap (λ z. e ∷ z) (mapped-same cfg es)

only-moves : (cfg : Settings) (fs : List Ev) → T (only_moves fs) → T (Rattle.hold.specs.Wide.only_moves (base cfg) fs)
unfolding only_moves Rattle.hold.specs.Wide.only_moves
only-moves cfg [] h = tt
only-moves cfg (Due o t ∷ es) h = only-moves cfg es h
only-moves cfg (Takes o t n ∷ es) h = only-moves cfg es h
only-moves cfg (Hears o i t ∷ es) h = only-moves cfg es h
only-moves cfg (Sends o t p n ∷ es) h = h
only-moves cfg (Opens o t ∷ es) h = h
only-moves cfg (Gives o t bs ∷ es) h = h
only-moves cfg (Closes o t ∷ es) h = h
only-moves cfg (Breaks o t ∷ es) h = h
only-moves cfg (Forgets o t ∷ es) h = h
only-moves cfg (Listens o b ∷ es) h = h

-- the base looks like itself
sim : (cfg : Settings) → Sim (base cfg) cfg
sim cfg = record { run = λ es _. es; same = λ es _ o. ap (λ z. views_of (end o z).conns) (after-world cfg es); moved = λ es _ fs h. (fs, tt, only-moves cfg fs h, omega arith, refl); enough = λ n. omega arith }

-- what is there after a move was there before, with the same given and closed, or is new
abbrev From : World → Who → Conn → Type 0
From w o x = ((x.given ≡ []) × (x.closed ≡ false)) ⊎ ((c : Conn) × At o w c × (c.mine ≡ x.mine) × (c.given ≡ x.given) × (c.closed ≡ x.closed))

abbrev AllFrom : World → World → Type 0
AllFrom w v = (o : Who) (x : Conn) → At o v x → From w o x

module _ (cfg : Settings) (w : World) where
  stays : AllFrom w w
  stays o x m = inr (x, m, refl, refl, refl)

  put-from : (q : Who) (e : End) (ps : List Packet) (ts : List ℕ) → ((x : Conn) → Memᴰ x e.conns → From w q x) → AllFrom w (put q e ps ts w)
  put-from L e ps ts g L x m = g x m
  put-from L e ps ts g R x m = stays R x m
  put-from R e ps ts g L x m = stays L x m
  put-from R e ps ts g R x m = g x m

  tells : (q : Who) (ps : List Packet) → AllFrom w (put q (end q w) ps [] w)
  tells q ps = put-from q (end q w) ps [] (stays q)

  edits : (q : Who) (t : ℕ) (f : Conn → Conn) → ((c : Conn) → (c.mine ≡ (f c).mine) × (c.given ≡ (f c).given) × (c.closed ≡ (f c).closed)) → AllFrom w (put q (changed t f (end q w)) [] [] w)
  edits q t f k = put-from q (changed t f (end q w)) [] [] (λ x m. ⊎_elim (stays q x) (λ (d, n, _, _, e). let (a, b, c) = k d in rw e (inr (d, n, a, b, c))) (mem_change t f _ x m))

  on_kind_lem : (q : Who) (p : Packet) (t : ℕ) (k : Kind) → AllFrom w (on_kind cfg q p t k w)
  on_kind_lem q p t Ask = go (by_theirs p.from (end q w).conns)
    where
      fresh : AllFrom w (put q (added (new Half t p.from) (end q w)) (bare Yes t p.from ∷ []) (t ∷ []) w)
      fresh = put-from q (added (new Half t p.from) (end q w)) (bare Yes t p.from ∷ []) (t ∷ []) (λ x m. ⊎_elim (λ e. rw e (inl (refl, refl))) (stays q x) (Memᴰ.cases_cons m))

      go : (f : Found) → AllFrom w (on_ask q p t f w)
      go (There c) = tells q (bare Yes c.mine c.theirs ∷ [])
      go NotThere = cond_both ((end q w).listens && (not (is_in t w.drawn) && not (eqb t 0))) (put q (added (new Half t p.from) (end q w)) (bare Yes t p.from ∷ []) (t ∷ []) w) w (AllFrom w) (λ _. fresh) (λ _. stays)
  on_kind_lem q p t Yes = go (by_tag p.to (end q w).conns)
    where
      go : (f : Found) → AllFrom w (on_yes q p f w)
      go NotThere = tells q (bare Bye p.to p.from ∷ [])
      go (There c) = cond_both (is_asked c.phase) (put q (changed c.mine (open_with p.from) (end q w)) [] [] w) (cond (eqb c.theirs p.from) w (put q (end q w) (bare Bye p.to p.from ∷ []) [] w)) (AllFrom w)
          (λ _. edits q c.mine (open_with p.from) (λ _. (refl, refl, refl))) (λ _. cond_both (eqb c.theirs p.from) w (put q (end q w) (bare Bye p.to p.from ∷ []) [] w) (AllFrom w) (λ _. stays) (λ _. tells q _))
  on_kind_lem q p t Text = go (by_tag p.to (end q w).conns)
    where
      go : (f : Found) → AllFrom w (on_text cfg q p f w)
      go NotThere = tells q (bare Bye p.to p.from ∷ [])
      go (There c) = cond_both (not (is_asked c.phase) && eqb c.theirs p.from) (put q (changed c.mine (λ d. hears cfg p (open_with p.from d)) (end q w)) [] [] w) w (AllFrom w)
          (λ _. edits q c.mine (λ d. hears cfg p (open_with p.from d)) (λ _. (refl, refl, refl))) (λ _. stays)
  on_kind_lem q p t Bye = go (by_tag p.to (end q w).conns)
    where
      go : (f : Found) → AllFrom w (on_bye q p f w)
      go NotThere = stays
      go (There c) = cond_both (not (is_asked c.phase) && eqb c.theirs p.from) (put q (changed c.mine (in_phase Gone) (end q w)) [] [] w) w (AllFrom w) (λ _. edits q c.mine (in_phase Gone) (λ _. (refl, refl, refl))) (λ _. stays)

  nth : (q : Who) (i t : ℕ) (ps : List Packet) → AllFrom w (hears_nth cfg q i t ps w)
  unfolding hears_nth
  nth q i t [] = stays
  nth q zero t (p ∷ ps) = on_kind_lem q p t p.kind
  nth q (suc i) t (p ∷ ps) = nth q i t ps

  move_from : (e : Ev) → only_moves (e ∷ []) ≡ true → AllFrom w (step cfg e w)
  unfolding only_moves
  move_from (Due q t) h = tells q _
  move_from (Takes q t k) h = edits q t (takes k) (λ _. (refl, refl, refl))
  move_from (Hears q i t) h = nth q i t (coming_to q w)
  move_from (Sends q t p k) h = false_true _ refl h
  move_from (Opens q t) h = false_true _ refl h
  move_from (Gives q t bs) h = false_true _ refl h
  move_from (Closes q t) h = false_true _ refl h
  move_from (Breaks q t) h = false_true _ refl h
  move_from (Forgets q t) h = false_true _ refl h
  move_from (Listens q b) h = false_true _ refl h

quiet : (cfg : Settings) → Quiet (base cfg)
unfolding after
quiet cfg e es _ h o v m = go (in_views _ v m)
  where
    go : (x : Conn) × At o (step cfg e (after (base cfg) es)) x × (v ≡ view_of x) → ((v.given ≡ []) × (v.closed ≡ false)) ⊎
        ((u : View) × Sees (base cfg) o es u × (u.mine ≡ v.mine) × (u.stream ≡ v.stream) × (u.given ≡ v.given) × (u.closed ≡ v.closed))
    go (x, n, k) = rw k (⊎_elim inl (λ (c, l, a, b, d). inr (view_of c, views_in _ c l, a, refl, b, d)) (move_from cfg (after (base cfg) es) e h o x n))

single : (cfg : Settings) (e : Ev) → Rattle.hold.specs.Wide.only_moves (base cfg) (e ∷ []) ≡ true → T (only_moves (e ∷ []))
unfolding Rattle.hold.specs.Wide.only_moves
single cfg e h = true→T _ (and_parts _ _ h).0

pub base-main : (cfg : Settings) → 0 < cfg.room → MainFor cfg (base cfg)
base-main cfg pos = (wider, (sim_holding (base cfg) cfg (sim cfg), (sim_no_dead_end (base cfg) cfg (sim cfg) pos, quiet cfg)))
  where
    wider : Wider (base cfg) cfg
    wider = record { event = λ e. e ∷ []; runs = λ _ _. tt; sees = λ es _ o. ap (λ z. views_of (end o (after (base cfg) z)).conns) (mapped-same cfg es) ∙ ap (λ z. views_of (end o z).conns) (after-world cfg es); no_call = single cfg }
