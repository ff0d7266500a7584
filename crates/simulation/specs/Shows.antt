-- For which worlds of the model a pair stands.
use Rattle.std.specs.Prelude.{◌≡◌, ℕ, ◌-◌, ◌<◌, true, cond, ◌&&◌, List, [], ◌∷◌, ◌++◌, map, reverse, length, Ok, Err, vec_items, Result, nat_le}
use Rattle.hold.specs.Packet as m
use Rattle.hold.specs.World.{Ev, L, R, Sends, Who, World, by_tag, coming_to, end, is_in, other, start, world}
use Rattle.packet.specs.Packets.{packet}
use Rattle.packet.specs.declared.packet.Packet.{Packet}
use Rattle.packet.specs.declared.settings.Settings.{Settings}
use Rattle.endpoint.specs.Saying.{upto_of}
use Rattle.endpoint.specs.Stands as E
use Rattle.party.specs.Plays.{Plays}
use Rattle.party.specs.declared.Fault.{Fault}
use Rattle.party.specs.declared.Party.{Party}
use Rattle.simulation.specs.declared.half.Half.{Half}
use Rattle.simulation.specs.declared.pair.Pair.{Pair}
use Rattle.simulation.specs.declared.pair.Side.{Side}
use Rattle.simulation.specs.declared.pair.Side.TheVariants.{Left, Right}

abbrev pub who_of : Side → Who
who_of Left = L
who_of Right = R

-- the events of a call that was not refused
abbrev pub when_ok : {A : Type 0} → (A → List Ev) → Result A Fault → List Ev
when_ok f (Ok a) = f a
when_ok f (Err e) = []

-- the answer of a connection, and a text that goes out if it may
abbrev pub answer_of : Party → Who → ℕ → World → List Ev
answer_of p o t w = Sends o t (upto_of (by_tag t (end o w).conns)) (E.cfg p.end).size ∷ []

abbrev pub send_of : Party → Who → ℕ → ℕ → ℕ → World → List Ev
send_of p o t q k w = cond (nat_le (upto_of (by_tag t (end o w).conns)) q && nat_le k (E.cfg p.end).size) (Sends o t q k ∷ []) []

-- the model has the latest first
abbrev pub net_of : List Packet → List m.Packet
net_of xs = map packet (reverse xs)

-- every tag that was drawn is among these
abbrev pub Drawn : World → List ℕ → Type 0
Drawn w ts = (t : ℕ) → is_in t w.drawn ≡ true → is_in t ts ≡ true

abbrev pub half_of : Who → Pair → Half
half_of L p = p.halves.left
half_of R p = p.halves.right

abbrev pub party_of : Who → Pair → Party
party_of o p = (half_of o p).party

-- all packets that ever came to a side are those that the other sent
abbrev pub net_to : Who → Pair → List Packet
net_to o p = vec_items (half_of (other o) p).sent

pub record Shows (cfg : m.Settings) (p : Pair) (w : World) : Type 0 where
  pub settings : (o : Who) → E.cfg (party_of o p).end ≡ cfg
  pub plays : (o : Who) → Plays (party_of o p) (end o w)
  pub came : (o : Who) → coming_to o w ≡ net_of (net_to o p)
  pub drawn : Drawn w (vec_items p.drawn)

abbrev pub answers : Pair → Who → ℕ → World → List Ev
answers p o = answer_of (party_of o p) o

abbrev pub sends : Pair → Who → ℕ → ℕ → ℕ → World → List Ev
sends p o = send_of (party_of o p) o

-- the place from the latest of the packet at a place
abbrev pub Placed : List Packet → ℕ → Result ℕ Fault → Type 0
Placed inn i (Ok k) = (i < length inn) × (k ≡ length inn - 1 - i)
Placed inn i (Err f) = Unit {0}

-- From p to q are these events, the latest first, after every run for which p stands.
abbrev pub Does : Pair → Pair → (World → List Ev) → Type 0
Does p q fs = (cfg : m.Settings) (es : List Ev) → Shows cfg p (world cfg es) → Shows cfg q (world cfg (fs (world cfg es) ++ es))

-- p stands for some run of the model
abbrev pub Runs : Pair → Type 0
Runs p = (cfg : m.Settings) × (es : List Ev) × Shows cfg p (world cfg es)

-- a half that did nothing yet
pub record Begins (s : Settings) (q : Half) : Type 0 where
  pub settings : q.party.end.settings ≡ s
  pub plays : (o : Who) → Plays q.party (end o start)
  pub sent : vec_items q.sent ≡ []

-- what one side is after it did something
pub record Next (q : Half) (ts : List ℕ) (o : Who) (before after : World) : Type 0 where
  pub plays : Plays q.party (end o after)
  pub sends : coming_to (other o) after ≡ net_of (vec_items q.sent)
  pub far : end (other o) after ≡ end (other o) before
  pub back : coming_to o after ≡ coming_to o before
  pub drawn : Drawn after ts

-- The same as Does of one side: a half, what comes to it, and what was drawn, before and after.
pub record HalfDoes (p q : Half) (came : List Packet) (ts ts' : List ℕ) (fs : Who → World → List Ev) : Type 0 where
  pub settings : q.party.end.settings ≡ p.party.end.settings
  pub acted : (o : Who) (es : List Ev) → Plays p.party (end o (world (E.cfg p.party.end) es)) → coming_to o (world (E.cfg p.party.end) es) ≡ net_of came → coming_to (other o) (world (E.cfg p.party.end) es) ≡ net_of (vec_items p.sent) → Drawn (world (E.cfg p.party.end) es) ts →
      Next q ts' o (world (E.cfg p.party.end) es) (world (E.cfg p.party.end) (fs o (world (E.cfg p.party.end) es) ++ es))
