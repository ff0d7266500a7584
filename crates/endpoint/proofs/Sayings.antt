-- What goes out of an end that does not change.
use Rattle.std.proofs.Common.{◌≡◌, ℕ, ◌≤◌, min, max, true, false, cond, List, [], ◌∷◌, Some, None, sym, ap, ◌∙◌, arith}
use Rattle.hold.specs.Conn.{Conn, says}
use Rattle.hold.specs.Packet.{Packet, Settings}
use Rattle.hold.specs.World.{End, Found, NotThere, There, Who, World, by_tag, end, is_open, put, says_if}
use Rattle.connection.specs.Phases.{phase_of}
use Rattle.connection.specs.Stand.{Rings, Stand1}
use Rattle.connection.specs.declared.connection.Connection.{Connection}
use Rattle.table.specs.Search.{at, finds}
use Rattle.table.specs.declared.Wanted.TheVariants.{Tag}
use Rattle.endpoint.specs.Saying.{upto_of}
use Rattle.endpoint.specs.Stands.{Stands, cfg, lent}
use Rattle.endpoint.specs.Steps.{After}
use Rattle.endpoint.specs.declared.Endpoint.{Endpoint}
use Rattle.endpoint.proofs.Ends.{after_out, finding, missing}

module _ (x : Endpoint) (o : Who) (w : World) (s : Stands x (end o w)) (tag : ℕ) (out : List Packet) (f : Found → List Packet) where
  pub says_none : None ≡ finds (Tag tag) x.table → out ≡ f NotThere → After x out o w (put o (end o w) (f (by_tag tag (end o w).conns)) [] w)
  says_none h e = after_out x out o (end o w) (f (by_tag tag (end o w).conns)) w (e ∙ sym (ap f (missing x (end o w) s tag h))) s

  pub says_of : (l : ℕ) → Some l ≡ finds (Tag tag) x.table → ((c : Conn) → Stand1 (cfg x) (at x.table l) (lent x l) c → out ≡ f (There c)) → After x out o w (put o (end o w) (f (by_tag tag (end o w).conns)) [] w)
  says_of l h e = let g = finding x (end o w) s tag l h in after_out x out o (end o w) (f (by_tag tag (end o w).conns)) w (e g.c g.stand ∙ sym (ap f g.there)) s

-- what an open connection may say, and one that is not
module _ (k : Settings) {mem : Rings} (x : Connection) (c : Conn) (s : Stand1 k x mem c) (p n : ℕ) where
  open_is : is_open c.phase ≡ is_open (phase_of x.pairing.phase)
  open_is = ap (λ (d : Conn). is_open d.phase) (sym s.is)

  pub mute : is_open (phase_of x.pairing.phase) ≡ false → [] ≡ says_if k p n (There c)
  mute e = sym (ap (λ b. cond b (says k p n c ∷ []) []) (open_is ∙ e))

  pub speaks : is_open (phase_of x.pairing.phase) ≡ true → (q : Packet) → q ≡ says k p n c → q ∷ [] ≡ says_if k p n (There c)
  speaks e q h = ap (λ (r : Packet). r ∷ []) h ∙ sym (ap (λ b. cond b (says k p n c ∷ []) []) (open_is ∙ e))

  -- from a place that is not confirmed, no more than a text may have
  pub says_so : x.stream.sender.upto ≤ p → n ≤ k.size → (q : Packet) → q ≡ says k (max c.upto p) (min n k.size) c → q ≡ says k p n c
  says_so h m q e =
      let u : x.stream.sender.upto ≡ c.upto = ap (λ (d : Conn). d.upto) s.is in
      let a : max c.upto p ≡ p = omega arith in
      let b : min n k.size ≡ n = omega arith in
      e ∙ ap (λ i. says k i (min n k.size) c) a ∙ ap (λ i. says k p i c) b

pub upto_is : (x : Endpoint) (e : End) → Stands x e → (tag l : ℕ) → Some l ≡ finds (Tag tag) x.table → upto_of (by_tag tag e.conns) ≡ (at x.table l).stream.sender.upto
upto_is x e s tag l h = let f = finding x e s tag l h in ap upto_of f.there ∙ sym (ap (λ (d : Conn). d.upto) f.stand.is)
