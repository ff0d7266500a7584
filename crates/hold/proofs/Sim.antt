-- A transport each of whose runs looks like a run of the base keeps the base's promise. For ends that only choose otherwise what is sent when. Assumes nothing.
use Rattle.std.proofs.Common.{◌≡◌, ℕ, ◌+◌, ◌*◌, ◌<◌, ◌≤◌, true, T, List, [], ◌∷◌, ◌++◌, length, drop, sym, refl, ap, ◌∙◌, subst, ⊎_elim, arith}
use mathlib.Core.List.Memᴰ
use mathlib.Core.List.{Memᴰ}
use Rattle.hold.specs.Packet.{Settings}
use Rattle.hold.specs.Conn.{Conn}
use Rattle.hold.specs.World.{Who, Ev, end, other, world}
use Rattle.hold.specs.Promise.{At, only_moves, Holds}
use Rattle.hold.specs.Wide.{View, Transport, after, Sees, Whole, Holding, NoDeadEnd, view_of, views_of}
use Rattle.hold.proofs.Bricks.{true→T}
use Rattle.hold.proofs.Parts.{holds}
use Rattle.hold.proofs.Rounds.{no_stand}

pub in_views : (cs : List Conn) (v : View) → Memᴰ v (views_of cs) → (c : Conn) × Memᴰ c cs × (v ≡ view_of c)
unfolding views_of
in_views [] v m = absurd (Memᴰ.not-nil m)
in_views (c ∷ cs) v m = ⊎_elim (λ e. (c, Memᴰ.head refl, e)) (λ n. let (d, k, e) = in_views cs v n in (d, Memᴰ.tail k, e)) (Memᴰ.cases_cons m)

pub views_in : (cs : List Conn) (c : Conn) → Memᴰ c cs → Memᴰ (view_of c) (views_of cs)
unfolding views_of
views_in [] c m = absurd (Memᴰ.not-nil m)
views_in (x ∷ cs) c m = ⊎_elim (λ e. Memᴰ.head (ap view_of e)) (λ n. Memᴰ.tail (views_in cs c n)) (Memᴰ.cases_cons m)

-- run: the base's run that a run looks like. moved: moves of the base can be made, one by one or by fewer
pub record Sim (m : Transport) (cfg : Settings) : Type 0 where
  pub run : (es : List m.Event) → m.allowed es → List Ev
  pub same : (es : List m.Event) (a : m.allowed es) (o : Who) → m.views o (after m es) ≡ views_of (end o (world cfg (run es a))).conns
  pub moved : (es : List m.Event) (a : m.allowed es) (fs : List Ev) → T (only_moves fs) →
      (gs : List m.Event) × (b : m.allowed (gs ++ es)) × T (Rattle.hold.specs.Wide.only_moves m gs) × (length gs ≤ length fs) × (run (gs ++ es) b ≡ fs ++ run es a)
  pub enough : (n : ℕ) → 6 * n + 12 ≤ m.most n

module _ (m : Transport) (cfg : Settings) (s : Sim m cfg) where
  sees_at : (es : List m.Event) (a : m.allowed es) (o : Who) (v : View) → Sees m o es v → (c : Conn) × At o (world cfg (s.run es a)) c × (v ≡ view_of c)
  sees_at es a o v n = in_views _ v (rw (s.same es a o) at n)

  at_sees : (es : List m.Event) (a : m.allowed es) (o : Who) (c : Conn) → At o (world cfg (s.run es a)) c → Sees m o es (view_of c)
  at_sees es a o c n = rw (s.same es a o) (views_in _ c n)

  pub sim_holding : Holding m
  sim_holding es a o v n h = go (sees_at es a o v n)
    where
      whole : (c : Conn) → Holds (world cfg (s.run es a)) o c → Whole m o es (view_of c)
      whole c r = record {
        partner = view_of r.partner;
        there = at_sees es a (other o) r.partner r.there;
        one = (r.one.0, r.one.1, refl);
        only = λ u k q _. let (x, j, f) = sees_at es a (other o) u k in f ∙ ap view_of (r.only x j (ap (λ z. z.mine) (sym f) ∙ q));
        rest = r.rest;
        first_part = r.first_part;
        end_of_all = r.end_of_all;
        end_heard = r.end_heard;
        end_true = r.end_true;
        told = r.told;
        came = r.came;
        all_came = r.all_came;
      }

      go : (c : Conn) × At o (world cfg (s.run es a)) c × (v ≡ view_of c) → Whole m o es v
      go (c, k, e) = subst (Whole m o es) (sym e) (whole c (holds cfg (s.run es a) o c k (ap (λ z. z.opened) (sym e) ∙ h)))

  pub sim_no_dead_end : 0 < cfg.room → NoDeadEnd m
  sim_no_dead_end pos es a o u v m₁ m₂ lu lv one = go (sees_at es a o u m₁) (sees_at es a (other o) v m₂)
    where
      Goal : View → View → Type 0
      Goal c d = (fs : List m.Event) × m.allowed (fs ++ es) × T (Rattle.hold.specs.Wide.only_moves m fs) × (length fs ≤ m.most (length (drop (length c.got) d.given))) ×
          ((x : View) → Sees m o (fs ++ es) x → x.mine ≡ c.mine → x.stream ≡ c.stream → (x.got ≡ d.given) × (d.closed ≡ true → x.ended ≡ true))

      Got : List Ev → Conn → Conn → Type 0
      Got hs c d = (x : Conn) → At o (world cfg hs) x → x.mine ≡ c.mine → (x.got ≡ d.given) × (d.closed ≡ true → x.ended ≡ true)

      -- a view that is seen there has got it
      seen : (hs : List m.Event) (b : m.allowed hs) (c d : Conn) → u ≡ view_of c → v ≡ view_of d → Got (s.run hs b) c d → (x : View) → x.mine ≡ u.mine →
          (y : Conn) × At o (world cfg (s.run hs b)) y × (x ≡ view_of y) → (x.got ≡ v.given) × (v.closed ≡ true → x.ended ≡ true)
      seen hs b c d e f g x q (y, l, h) = let r = g y l (ap (λ z. z.mine) (sym h) ∙ q ∙ ap (λ z. z.mine) e) in
          (ap (λ z. z.got) h ∙ r.0 ∙ ap (λ z. z.given) (sym f), λ z. ap (λ z. z.ended) h ∙ r.1 (ap (λ z. z.closed) (sym f) ∙ z))

      done : (c d : Conn) (fs : List Ev) → u ≡ view_of c → v ≡ view_of d → length fs ≤ 6 * length (drop (length c.got) d.given) + 12 → Got (fs ++ s.run es a) c d →
          (gs : List m.Event) × (b : m.allowed (gs ++ es)) × T (Rattle.hold.specs.Wide.only_moves m gs) × (length gs ≤ length fs) × (s.run (gs ++ es) b ≡ fs ++ s.run es a) → Goal u v
      done c d fs e f l g (gs, b, t, k, r) = (
        gs,
        b,
        t,
        few,
        λ x n q _. seen (gs ++ es) b c d e f (subst (λ z. Got z c d) (sym r) g) x q (sees_at (gs ++ es) b o x n),
      )
        where
          few : length gs ≤ m.most (length (drop (length u.got) v.given))
          few = rw (e, f) (omega (arith, l, k, s.enough (length (drop (length c.got) d.given))))

      go : (c : Conn) × At o (world cfg (s.run es a)) c × (u ≡ view_of c) → (d : Conn) × At (other o) (world cfg (s.run es a)) d × (v ≡ view_of d) → Goal u v
      go (c, j, e) (d, k, f) = let r = no_stand cfg pos (s.run es a) o c d j k (true→T _ (ap (λ z. z.lives) (sym e) ∙ lu)) (true→T _ (ap (λ z. z.lives) (sym f) ∙ lv))
          (ap (λ z. z.theirs) (sym e) ∙ one.0 ∙ ap (λ z. z.mine) f, ap (λ z. z.theirs) (sym f) ∙ one.1 ∙ ap (λ z. z.mine) e) in
          done c d r.0 e f r.2 r.3 (s.moved es a r.0 r.1)
