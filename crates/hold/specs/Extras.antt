-- What else is promised, beyond the main promise: of room, of tags, of byes, of what a text touches. Each is a type; a proof of the type is the theorem. Assumes nothing.
use Rattle.std.specs.Prelude.{◌≡◌, ℕ, ◌+◌, ◌<◌, ◌≤◌, true, ◌⊎◌, List, ◌∷◌, length, ◌≢◌}
use mathlib.Core.List.{Memᴰ}
use Rattle.hold.specs.Packet.{Settings, Packet, Text, Bye, bare}
use Rattle.hold.specs.Conn.{Conn, Gone, in_phase, open_with, hears, says, due, ends}
use Rattle.hold.specs.World.{Who, World, Ev, Breaks, end, other, coming_to, is_open, on_kind, step, world}
use Rattle.hold.specs.Promise.{At, One, tags, apart, lives}

-- The room that one sees is there: nothing that is sent below it is thrown away.
abbrev pub EdgeTrue : Type 0
EdgeTrue = (cfg : Settings) (es : List Ev) (o : Who) (c d : Conn) → At o (world cfg es) c → At (other o) (world cfg es) d → c.opened ≡ true → One c d → c.sees ≤ d.taken + cfg.room

-- No two connections of an end that were ever open have the same other one.
abbrev pub Unique : Type 0
Unique = (cfg : Settings) (es : List Ev) (o : Who) (c d : Conn) → At o (world cfg es) c → At o (world cfg es) d → c.opened ≡ true → d.opened ≡ true → c.theirs ≡ d.theirs → c ≡ d

-- The user is told the end exactly when it was heard of and all bytes before it came.
abbrev pub ToldExactly : Type 0
ToldExactly = (cfg : Settings) (es : List Ev) (o : Who) (c : Conn) → At o (world cfg es) c → c.ended ≡ ends c.end (length c.got)

-- Nobody has the tag 0, and nothing is sent from it.
abbrev pub NoZero : Type 0
NoZero = (cfg : Settings) (es : List Ev) (o : Who) → ((c : Conn) → At o (world cfg es) c → c.mine ≢ 0) × ((p : Packet) → Memᴰ p (coming_to o (world cfg es)) → p.from ≢ 0)

-- a packet is for a connection that is half or open and has both its tags
pub record Fits (p : Packet) (c : Conn) : Type 0 where
  pub alive : lives c.phase ≡ true
  pub to : c.mine ≡ p.to
  pub from : c.theirs ≡ p.from

-- From w to v the end o did f to the connection that the packet is for, and nothing else: whoever was there is there, or it is for him and f was done to him; whoever is there was there, or comes by f from one that it is for;
-- if no tag is had twice, f was done to the one that it is for; the other end is as it was.
pub record Touches (o : Who) (p : Packet) (f : Conn → Conn) (w v : World) : Type 0 where
  pub stays : (c : Conn) → At o w c → At o v c ⊎ (Fits p c × At o v (f c))
  pub only : (x : Conn) → At o v x → At o w x ⊎ ((c : Conn) × At o w c × Fits p c × (x ≡ f c))
  pub does : apart (tags (end o w).conns) ≡ true → (c : Conn) → At o w c → Fits p c → At o v (f c)
  pub listens : (end o v).listens ≡ (end o w).listens
  pub far : end (other o) v ≡ end (other o) w

-- A bye breaks the connection that it is for, touches no other, and nothing is sent. And whoever breaks one that is half or open sends just one bye, with its two tags.
abbrev pub ByeExact : Type 0
ByeExact =
    ((cfg : Settings) (p : Packet) (t : ℕ) (w : World) (o : Who) → p.kind ≡ Bye → Touches o p (in_phase Gone) w (on_kind cfg o p t p.kind w) × (coming_to (other o) (on_kind cfg o p t p.kind w) ≡ coming_to (other o) w)) ×
    ((cfg : Settings) (es : List Ev) (o : Who) (c : Conn) → At o (world cfg es) c → lives c.phase ≡ true →
    coming_to (other o) (step cfg (Breaks o c.mine) (world cfg es)) ≡ bare Bye c.mine c.theirs ∷ coming_to (other o) (world cfg es))

-- A text is heard by the connection that it is for, and touches no other.
abbrev pub TextExact : Type 0
TextExact = (cfg : Settings) (p : Packet) (t : ℕ) (w : World) (o : Who) → p.kind ≡ Text → Touches o p (λ c. hears cfg p (open_with p.from c)) w (on_kind cfg o p t p.kind w)

-- all bytes of a text stand below a place
abbrev pub Below : ℕ → Packet → Type 0
Below n p = (i : ℕ) → i < length p.text → p.place + i < n

-- No byte of what is said stands at or beyond what is seen of room. Only what is due may, and then just one byte; and each new text is one or the other.
abbrev pub SaysBelow : Type 0
SaysBelow =
    ((cfg : Settings) (q k : ℕ) (c : Conn) → Below c.sees (says cfg q k c)) × ((cfg : Settings) (c : Conn) → Below c.sees (due cfg c) ⊎ (length (due cfg c).text ≡ 1)) ×
    ((cfg : Settings) (es : List Ev) (e : Ev) (o : Who) (p : Packet) → Memᴰ p (coming_to (other o) (world cfg (e ∷ es))) → p.kind ≡ Text →
    Memᴰ p (coming_to (other o) (world cfg es)) ⊎ ((c : Conn) × At o (world cfg es) c × (is_open c.phase ≡ true) × (p.from ≡ c.mine) × (p.to ≡ c.theirs) × (Below c.sees p ⊎ (p ≡ due cfg c))))
