-- A packet touches no connection but the one whose tag it has. Assumes nothing.
use Rattle.std.proofs.Common.{◌≡◌, ℕ, eqb, List, [], ◌∷◌, refl, ◌∙◌}
use mathlib.Core.List.{Memᴰ}
use Rattle.std.proofs.lemmas.Bool.{cond_both}
use Rattle.hold.specs.Packet.{Settings, Packet, Kind, Ask, Yes, Text, Bye, bare}
use Rattle.hold.specs.Conn.{Conn, Half, Gone, new, in_phase, open_with, hears}
use Rattle.hold.specs.World.{Who, End, World, end, put, changed, added, by_tag, Found, NotThere, There, on_ask, on_yes, on_text, on_bye, on_kind}
use Rattle.hold.specs.Promise.{At, Alone}
use Rattle.hold.proofs.Table.{mem_other, by_tag_mem}
use Rattle.hold.proofs.Puts.{end-put}

-- a record, so that antt reads the world off a goal `Has o c w` (it does not off `At o w c`, nor off a shut definition)
record Has (o : Who) (c : Conn) (w : World) : Type 0 where
  is : At o w c

module _ (cfg : Settings) (p : Packet) (t : ℕ) (w : World) (o : Who) (c : Conn) (m : At o w c) (n : c.mine ≡ p.to → ⊥) where
  still : Has o c w
  still = record { is = m }

  at-put : (e : End) (ps : List Packet) (ts : List ℕ) → Memᴰ c e.conns → Has o c (put o e ps ts w)
  at-put e ps ts k = record { is = rw (end-put o e ps ts w) k }

  at-changed : (f : Conn → Conn) (x : Conn) (ps : List Packet) → by_tag p.to (end o w).conns ≡ There x → Has o c (put o (changed x.mine f (end o w)) ps [] w)
  at-changed f x ps e = at-put _ ps [] (mem_other x.mine f (end o w).conns c (λ q. n (q ∙ (by_tag_mem _ _ x e).1)) m)

  on_ask_lem : (f : Found) → Has o c (on_ask o p t f w)
  on_ask_lem (There x) = at-put _ _ _ m
  on_ask_lem NotThere = cond_both _ _ _ (Has o c) (λ _. at-put (added (new Half t p.from) (end o w)) (bare Yes t p.from ∷ []) (t ∷ []) (Memᴰ.tail m)) (λ _. still)

  on_yes_lem : (f : Found) → by_tag p.to (end o w).conns ≡ f → Has o c (on_yes o p f w)
  on_yes_lem NotThere e = at-put _ _ _ m
  on_yes_lem (There x) e = cond_both _ _ _ (Has o c) (λ _. at-changed (open_with p.from) x [] e) (λ _. cond_both (eqb x.theirs p.from) _ _ (Has o c) (λ _. still) (λ _. at-put (end o w) (bare Bye p.to p.from ∷ []) [] m))

  on_text_lem : (f : Found) → by_tag p.to (end o w).conns ≡ f → Has o c (on_text cfg o p f w)
  on_text_lem NotThere e = at-put _ _ _ m
  on_text_lem (There x) e = cond_both _ _ _ (Has o c) (λ _. at-changed (λ d. hears cfg p (open_with p.from d)) x [] e) (λ _. still)

  on_bye_lem : (f : Found) → by_tag p.to (end o w).conns ≡ f → Has o c (on_bye o p f w)
  on_bye_lem NotThere e = still
  on_bye_lem (There x) e = cond_both _ _ _ (Has o c) (λ _. at-changed (in_phase Gone) x [] e) (λ _. still)

  on_kind_lem : (k : Kind) → Has o c (on_kind cfg o p t k w)
  on_kind_lem Ask = on_ask_lem _
  on_kind_lem Yes = on_yes_lem _ refl
  on_kind_lem Text = on_text_lem _ refl
  on_kind_lem Bye = on_bye_lem _ refl

pub alone : Alone
alone cfg p t w o c m n = (on_kind_lem cfg p t w o c m n p.kind).is
