-- A party plays an end of the model, step by step.
use Rattle.std.specs.Prelude.{◌≡◌, ℕ, false, cond, ◌&&◌, List, [], ◌∷◌, ◌++◌, take, Ok, Err, Option, Result, nat_le}
use Rattle.hold.specs.Packet.{Packet, Settings}
use Rattle.hold.specs.World.{Breaks, End, Ev, Gives, Opens, Sends, Who, World, by_tag, coming_to, end, is_in, on_kind, other, step, world}
use Rattle.endpoint.specs.Saying.{upto_of}
use Rattle.endpoint.specs.Stands.{Stands, cfg}
use Rattle.packet.specs.Packets.{packet, sent}
use Rattle.packet.specs.declared.packet.Packet as c
use Rattle.ledger.specs.Books.{Keeps, Looked}
use Rattle.party.specs.declared.Party.{Party}
use Rattle.party.specs.declared.Fault.{Fault}

pub record Plays (p : Party) (e : End) : Type 0 where
  pub stands : Stands p.end e
  pub keeps : Keeps p.book e.conns

-- q's book is p's after a look at the end
abbrev pub Seen : Party → Party → Type 0
Seen p q = (e : End) → Stands p.end e → Looked e.conns p.book q.book

-- q plays the end o after a step, and out is what that step sent; the other end, and what comes from it, are as they were
pub record Acted (q : Party) (out : List Packet) (o : Who) (before after : World) : Type 0 where
  pub plays : Plays q (end o after)
  pub sends : coming_to (other o) after ≡ out ++ coming_to (other o) before
  pub far : end (other o) after ≡ end (other o) before
  pub back : coming_to o after ≡ coming_to o before

-- from p to q nothing is done that an end can tell
pub record Stays (p q : Party) : Type 0 where
  pub settings : q.end.settings ≡ p.end.settings
  pub plays : (e : End) → Plays p e → Plays q e

-- from p to q is a step, after every run in which p plays the end o
pub record Moves (p q : Party) (out : List Packet) (next : Who → World → World) : Type 0 where
  pub settings : q.end.settings ≡ p.end.settings
  pub acted : (o : Who) (es : List Ev) → Plays p (end o (world (cfg p.end) es)) → Acted q out o (world (cfg p.end) es) (next o (world (cfg p.end) es))

abbrev pub Acts : Party → Party → List Packet → (Who → Ev) → Type 0
Acts p q out e = Moves p q out (λ o. step (cfg p.end) (e o))

-- the same, where a tag is drawn for it that was not drawn before
pub record Draws (p q : Party) (t : ℕ) (out : List Packet) (next : Who → World → World) : Type 0 where
  pub settings : q.end.settings ≡ p.end.settings
  pub acted : (o : Who) (es : List Ev) → Plays p (end o (world (cfg p.end) es)) → is_in t (world (cfg p.end) es).drawn ≡ false → Acted q out o (world (cfg p.end) es) (next o (world (cfg p.end) es))

-- by what a call answered: its step, or nothing
abbrev pub Tried : {A : Type 0} → Party → Party → (Who → Ev) → Result A Fault → Type 0
Tried p q e (Ok a) = Acts p q [] e
Tried p q e (Err f) = Stays p q

abbrev pub Opened : Party → Party → ℕ → Result c.Packet Fault → Type 0
Opened p q t (Ok r) = Draws p q t (packet r ∷ []) (λ o. step (cfg p.end) (Opens o t))
Opened p q t (Err f) = Stays p q

abbrev pub Gave : Party → Party → ℕ → List ℕ → Result ℕ Fault → Type 0
Gave p q t bs (Ok n) = Acts p q [] (λ o. Gives o t (take n bs))
Gave p q t bs (Err f) = Stays p q

abbrev pub Broken : Party → Party → ℕ → Result (Option c.Packet) Fault → Type 0
Broken p q t (Ok r) = Acts p q (sent r) (λ o. Breaks o t)
Broken p q t (Err f) = Stays p q

abbrev pub Heard : Party → Party → Packet → ℕ → Result (Option c.Packet) Fault → Type 0
Heard p q k t (Ok r) = Draws p q t (sent r) (λ o. on_kind (cfg p.end) o k t k.kind)
Heard p q k t (Err f) = Stays p q

-- the answer to a text goes out, and nothing else happens
abbrev pub Answered : Party → ℕ → Option c.Packet → Type 0
Answered p t r = Moves p p (sent r) (λ o w. step (cfg p.end) (Sends o t (upto_of (by_tag t (end o w).conns)) (cfg p.end).size) w)

-- a text that may go out does, or nothing happens
abbrev pub says_now : Settings → Who → ℕ → ℕ → ℕ → World → World
says_now cfg o t q k w = cond (nat_le (upto_of (by_tag t (end o w).conns)) q && nat_le k cfg.size) (step cfg (Sends o t q k) w) w

abbrev pub Said : Party → ℕ → ℕ → ℕ → Option c.Packet → Type 0
Said p t q k r = Moves p p (sent r) (λ o. says_now (cfg p.end) o t q k)
