-- What is promised of the whole, and of its parts. Each is a type; a proof of the type is the theorem. Assumes nothing.
use Rattle.std.specs.Prelude.{◌≡◌, ℕ, ◌+◌, ◌*◌, ◌<◌, ◌≤◌, Bool, true, false, not, ◌&&◌, T, List, [], ◌∷◌, ◌++◌, length, take, drop, ◌==◌, ◌≢◌}
use mathlib.Core.List.{Memᴰ}
use Rattle.hold.specs.Packet.{Settings, Packet, Piece}
use Rattle.hold.specs.Conn.{Phase, Open, Gone, Last, Conn}
use Rattle.hold.specs.World.{Who, L, R, End, World, Ev, Opens, Due, Gives, Closes, Takes, Sends, Breaks, Hears, end, other, step, world, is_open}

-- a connection of an end
abbrev pub At : Who → World → Conn → Type 0
At o w c = Memᴰ c (end o w).conns

-- two connections are one: each has the other's tag
abbrev pub One : Conn → Conn → Type 0
One c d = (c.theirs ≡ d.mine) × (d.theirs ≡ c.mine)

-- 1. No tag is had twice, at either end.
unfoldable pub tags : List Conn → List ℕ
tags [] = []
tags (c ∷ cs) = c.mine ∷ tags cs

unfoldable pub apart : List ℕ → Bool
apart [] = true
apart (x ∷ xs) = not (Rattle.hold.specs.World.is_in x xs) && apart xs

abbrev pub Tagged : Type 0
Tagged = (cfg : Settings) (es : List Ev) → T (apart (tags (end L (world cfg es)).conns ++ tags (end R (world cfg es)).conns))

-- 2. Whoever is open, or was, is one with just one connection of the other end, and that one answers it alone.
abbrev pub Paired : Type 0
Paired =
    (cfg : Settings) (es : List Ev) (o : Who) (c : Conn) → At o (world cfg es) c → c.opened ≡ true →
    (d : Conn) × At (other o) (world cfg es) d × One c d × ((e : Conn) → At (other o) (world cfg es) e → e.mine ≡ c.theirs → e ≡ d)

-- 3. Nothing is kept beyond the room that was told.
abbrev pub InRoom : Type 0
InRoom =
    (cfg : Settings) (es : List Ev) (o : Who) (c : Conn) → At o (world cfg es) c →
    (c.taken ≤ length c.got) × (length c.got ≤ c.taken + cfg.room) × ((x : Piece) → Memᴰ x c.kept → (length c.got ≤ x.place) × (x.place < c.taken + cfg.room))

-- 4. What is kept is what was given, at its place.
abbrev pub KeptTrue : Type 0
KeptTrue =
    (cfg : Settings) (es : List Ev) (o : Who) (c d : Conn) → At o (world cfg es) c → At (other o) (world cfg es) d → c.opened ≡ true → One c d →
    (x : Piece) → Memᴰ x c.kept → take 1 (drop x.place d.given) ≡ x.byte ∷ []

-- 5. What one end believes to have come has come.
abbrev pub TrulyCame : Type 0
TrulyCame =
    (cfg : Settings) (es : List Ev) (o : Who) (c d : Conn) → At o (world cfg es) c → At (other o) (world cfg es) d → c.opened ≡ true → One c d →
    (c.upto ≤ length d.got) × (c.all ≡ true → d.ended ≡ true)

-- 6. A packet touches no connection but the one whose tag it has.
abbrev pub Alone : Type 0
Alone =
    (cfg : Settings) (p : Packet) (t : ℕ) (w : World) (o : Who) (c : Conn) → At o w c → (c.mine ≢ p.to) → At o (Rattle.hold.specs.World.on_kind cfg o p t p.kind w) c

-- 7. It never comes to a stand: as long as both live, what ends send by themselves, when the net brings it and the user takes, brings over all that was given,
-- after no more such events than are written here. No other sending is needed.
unfoldable pub only_moves : List Ev → Bool
only_moves [] = true
only_moves (Due o t ∷ es) = only_moves es
only_moves (Takes o t k ∷ es) = only_moves es
only_moves (Hears o i t ∷ es) = only_moves es
only_moves (Sends o t p k ∷ es) = false
only_moves (Opens o t ∷ es) = false
only_moves (Gives o t bs ∷ es) = false
only_moves (Closes o t ∷ es) = false
only_moves (Breaks o t ∷ es) = false
only_moves (Ev.Forgets o t ∷ es) = false
only_moves (Ev.Listens o b ∷ es) = false

abbrev pub lives : Phase → Bool
lives Phase.Asked = false
lives Phase.Half = true
lives Open = true
lives Gone = false

abbrev pub NoStand : Type 0
NoStand =
    (cfg : Settings) → 0 < cfg.room → (es : List Ev) (o : Who) (c d : Conn) → At o (world cfg es) c → At (other o) (world cfg es) d → T (lives c.phase) → T (lives d.phase) → One c d →
    (fs : List Ev) × T (only_moves fs) × (length fs ≤ 6 * length (drop (length c.got) d.given) + 12) ×
    ((x : Conn) → At o (world cfg (fs ++ es)) x → x.mine ≡ c.mine → (x.got ≡ d.given) × (d.closed ≡ true → x.ended ≡ true))

-- THE MAIN PROMISE. Two ends, any number of connections, any calls of the users at any moments, any choice of what is sent when, and a net that does with packets whatever it likes, for ever:
-- each connection that was ever open is one with just one of the other end, what its user got is a first part of what the other's user gave, its user is told the end exactly when that was all,
-- and what an end believes to have come did. And as long as both live no state is a dead end, by what ends send by themselves.
pub record Holds (w : World) (o : Who) (c : Conn) : Type 0 where
  pub partner : Conn
  pub there : At (other o) w partner
  pub one : One c partner
  pub only : (e : Conn) → At (other o) w e → e.mine ≡ c.theirs → e ≡ partner
  pub rest : List ℕ
  pub first_part : c.got ++ rest ≡ partner.given
  pub end_of_all : c.ended ≡ true → (rest ≡ []) × (partner.closed ≡ true)
  pub end_heard : c.ended ≡ true → (q : ℕ) × (c.end ≡ Last.At q)
  pub end_true : (q : ℕ) → c.end ≡ Last.At q → (q ≡ length partner.given) × (partner.closed ≡ true)
  pub told : (q : ℕ) → c.end ≡ Last.At q → c.ended ≡ (q == length c.got)
  pub came : c.upto ≤ length partner.got
  pub all_came : c.all ≡ true → partner.ended ≡ true

abbrev pub Main : Type 0
Main = ((cfg : Settings) (es : List Ev) (o : Who) (c : Conn) → At o (world cfg es) c → c.opened ≡ true → Holds (world cfg es) o c) × NoStand
