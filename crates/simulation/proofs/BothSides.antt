-- What one side does is what the pair does.
use Rattle.std.proofs.Common.{◌≡◌, ℕ, List, [], ◌∷◌, ◌++◌, ◌-◌, length, take, Some, Ok, Err, vec_items, Result, sym, refl, ap, ◌∙◌, subst}
use Rattle.std.proofs.lemmas.Bool.{false≢true}
use Rattle.std.specs.List.{slice_get}
use Rattle.std.specs.Prelude.{Vec}
use Rattle.std.specs.declared.alloc.Global.{Global}
use Rattle.hold.specs.World.{Ev, Gives, Hears, L, R, Who, World, coming_to, end, is_in, other, start, step, world}
use Rattle.packet.specs.declared.packet.Packet.{Packet}
use Rattle.packet.specs.Agreed.{cfg_of}
use Rattle.packet.specs.declared.settings.Settings.{Settings}
use Rattle.endpoint.specs.Stands as E
use Rattle.party.specs.Plays.{Acts, Gave, Plays, Stays, Tried}
use Rattle.party.specs.declared.Fault.{Fault}
use Rattle.party.specs.declared.Party.{Party}
use Rattle.simulation.specs.Shows.{Begins, Does, HalfDoes, Next, Shows, half_of, net_of, net_to, party_of, when_ok, who_of}
use Rattle.simulation.specs.Seen.{sent_to}
use Rattle.simulation.specs.Sides.{of_side, with_side}
use Rattle.simulation.specs.declared.half.Half.{Half}
use Rattle.simulation.specs.declared.pair.Pair.{Pair}
use Rattle.simulation.specs.declared.pair.Side.{Side}
use Rattle.simulation.specs.declared.pair.Side.TheVariants.{Left, Right}
use Rattle.simulation.proofs.OneSide.{half_acts, put_drawn}

-- what holds of one side and of the other
both : (P : Who → Type 0) (o : Who) → P o → P (other o) → (u : Who) → P u
both P L a b L = a
both P L a b R = b
both P R a b L = b
both P R a b R = a

module _ (p q : Pair) (o : Who) (fs : Who → World → List Ev) (h : HalfDoes (half_of o p) (half_of o q) (net_to o p) (vec_items p.drawn) (vec_items q.drawn) fs) (same : half_of (other o) q ≡ half_of (other o) p)
    (back : net_to (other o) q ≡ vec_items (half_of o q).sent) (forth : net_to (other o) p ≡ vec_items (half_of o p).sent) where
  at : (es : List Ev) → Shows (E.cfg (party_of o p).end) p (world (E.cfg (party_of o p).end) es) → Shows (E.cfg (party_of o p).end) q (world (E.cfg (party_of o p).end) (fs o (world (E.cfg (party_of o p).end) es) ++ es))
  at es s = go (h.acted o es (s.plays o) (s.came o) (s.came (other o) ∙ ap net_of forth) s.drawn)
    where
      go : Next (half_of o q) (vec_items q.drawn) o (world (E.cfg (party_of o p).end) es) (world (E.cfg (party_of o p).end) (fs o (world (E.cfg (party_of o p).end) es) ++ es)) → Shows (E.cfg (party_of o p).end) q (world (E.cfg (party_of o p).end) (fs o (world (E.cfg (party_of o p).end) es) ++ es))
      go n = record {
        settings = both (λ u. E.cfg (party_of u q).end ≡ E.cfg (party_of o p).end) o (ap cfg_of h.settings) (ap (λ z. E.cfg z.party.end) same ∙ s.settings (other o));
        plays = both (λ u. Plays (party_of u q) (end u (world (E.cfg (party_of o p).end) (fs o (world (E.cfg (party_of o p).end) es) ++ es)))) o n.plays (subst (λ z. Plays z.party (end (other o) (world (E.cfg (party_of o p).end) (fs o (world (E.cfg (party_of o p).end) es) ++ es)))) (sym same) (subst (Plays (party_of (other o) p)) (sym n.far) (s.plays (other o))));
        came = both (λ u. coming_to u (world (E.cfg (party_of o p).end) (fs o (world (E.cfg (party_of o p).end) es) ++ es)) ≡ net_of (net_to u q)) o (n.back ∙ s.came o ∙ sym (ap (λ z. net_of (vec_items z.sent)) same)) (n.sends ∙ sym (ap net_of back));
        drawn = n.drawn;
      }

  does_at : Does p q (fs o)
  does_at cfg es s = subst (λ z. Shows z p (world z es) → Shows z q (world z (fs o (world z es) ++ es))) (s.settings o) (at es) s

-- events that go by the settings of a side
pub moved_own : (p : Pair) (s : Side) (h g : Half) (ds : Vec ℕ Global) (fs : Party → Who → World → List Ev) → h ≡ of_side s p.halves → HalfDoes h g (net_to (who_of s) p) (vec_items p.drawn) (vec_items ds) (fs h.party) →
    Does p (record { halves = with_side s p.halves g; drawn = ds }) (fs (party_of (who_of s) p) (who_of s))
moved_own p Left h g ds fs e d = does_at p _ L (fs p.halves.left.party) (subst (λ z. HalfDoes z g (net_to L p) (vec_items p.drawn) (vec_items ds) (fs z.party)) e d) refl refl refl
moved_own p Right h g ds fs e d = does_at p _ R (fs p.halves.right.party) (subst (λ z. HalfDoes z g (net_to R p) (vec_items p.drawn) (vec_items ds) (fs z.party)) e d) refl refl refl

pub moved : (p : Pair) (s : Side) (h g : Half) (ds : Vec ℕ Global) (fs : Who → World → List Ev) → h ≡ of_side s p.halves → HalfDoes h g (net_to (who_of s) p) (vec_items p.drawn) (vec_items ds) fs →
    Does p (record { halves = with_side s p.halves g; drawn = ds }) (fs (who_of s))
moved p s h g ds fs = moved_own p s h g ds (λ _. fs)

-- calls that send and draw nothing
module _ (h : Half) (q : Party) (came : List Packet) (ts : List ℕ) where
  stays_half : Stays h.party q → HalfDoes h (record h { party = q }) came ts ts (λ _ _. [])
  stays_half s = record { settings = s.settings; acted = λ o es k e f g. record { plays = s.plays _ k; sends = f; far = refl; back = refl; drawn = g } }

  pub acts_half : (ev : Who → Ev) → ((o : Who) (w : World) → (step (E.cfg h.party.end) (ev o) w).drawn ≡ w.drawn) → Acts h.party q [] ev → HalfDoes h (record h { party = q }) came ts ts (λ o _. ev o ∷ [])
  acts_half ev d a = half_acts h (record h { party = q }) came _ [] ts (λ o _. ev o) d refl refl a

  pub tried_half : {A : Type 0} (ev : Who → Ev) → ((o : Who) (w : World) → (step (E.cfg h.party.end) (ev o) w).drawn ≡ w.drawn) → (r : Result A Fault) → Tried h.party q ev r → HalfDoes h (record h { party = q }) came ts ts (λ o _. when_ok (λ _. ev o ∷ []) r)
  tried_half ev d (Ok a) t = acts_half ev d t
  tried_half ev d (Err f) t = stays_half t

  pub gave_half : (t : ℕ) (bs : List ℕ) (r : Result ℕ Fault) → Gave h.party q t bs r → HalfDoes h (record h { party = q }) came ts ts (λ o _. when_ok (λ n. Gives o t (take n bs) ∷ []) r)
  gave_half t bs (Ok n) g = acts_half (λ o. Gives o t (take n bs)) (λ o w. put_drawn o _ _ _ w) g
  gave_half t bs (Err f) g = stays_half g

pub new_shows : (p : Pair) (s : Settings) → Begins s p.halves.left → Begins s p.halves.right → Shows (cfg_of s) p start
unfolding is_in
new_shows p s l r = record {
  settings = both (λ o. E.cfg (party_of o p).end ≡ cfg_of s) L (ap cfg_of l.settings) (ap cfg_of r.settings);
  plays = both (λ o. Plays (party_of o p) (end o start)) L (l.plays L) (r.plays R);
  came = both (λ o. coming_to o start ≡ net_of (net_to o p)) L (sym (ap net_of r.sent)) (sym (ap net_of l.sent));
  drawn = λ t h. absurd (false≢true h);
}

pub came_is : (p : Pair) (s : Side) → sent_to s p ≡ net_to (who_of s) p
came_is p Left = refl
came_is p Right = refl

-- a packet of those that came is heard
pub delivered : (p : Pair) (s : Side) (h g : Half) (ds : Vec ℕ Global) (came : List Packet) (i t : ℕ) (x : Packet) (r : Result (Unit {0}) Fault) → h ≡ of_side s p.halves → came ≡ net_to (who_of s) p → slice_get came i ≡ Some x →
    ((ps : List Packet) (j : ℕ) → slice_get ps j ≡ Some x → HalfDoes h g ps (vec_items p.drawn) (vec_items ds) (λ o _. when_ok (λ _. Hears o (length ps - 1 - j) t ∷ []) r)) → Does p (record { halves = with_side s p.halves g; drawn = ds }) (λ _. when_ok (λ _. Hears (who_of s) (length came - 1 - i) t ∷ []) r)
delivered p s h g ds came i t x r e n a d = moved p s h g ds (λ o _. when_ok (λ _. Hears o (length came - 1 - i) t ∷ []) r) e (subst (λ z. HalfDoes h g z (vec_items p.drawn) (vec_items ds) (λ o _. when_ok (λ _. Hears o (length came - 1 - i) t ∷ []) r)) n (d came i a))
