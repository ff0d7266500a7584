-- Rules that are wider than the model's own events: what may become of a connection, and what may be sent, at one move. Whoever goes by chains of such moves keeps the promise, so an end that
-- chooses other texts, hands bytes on later or drops what it kept owes only that its events are such chains. The model's own events are one user of these rules. Assumes nothing.
use Rattle.std.specs.Prelude.{◌≡◌, ℕ, zero, suc, ◌+◌, ◌<◌, ◌≤◌, Bool, true, false, T, List, [], ◌∷◌, ◌++◌, length, ◌==◌}
use mathlib.Core.List.{Memᴰ}
use Rattle.hold.specs.Packet.{Settings, Packet, Piece, Ask, Yes, Text, Bye, bare}
use Rattle.hold.specs.Conn.{Conn, Phase, Asked, Half, Open, Gone, NotSaid, new, in_phase, open_with, gives, closes, takes, heard, settle, turn, ends}
use Rattle.hold.specs.World.{Who, L, R, World, Ev, start, end, other, coming_to, put, changed, added, is_in, gone, is_open, is_asked, step, world}
use Rattle.hold.specs.Promise.{At, One, tags, apart, Holds}

-- the byte b is at a place of a list
abbrev pub AtPlace : ℕ → ℕ → List ℕ → Type 0
AtPlace i b [] = ⊥
AtPlace zero b (x ∷ xs) = x ≡ b
AtPlace (suc i) b (x ∷ xs) = AtPlace i b xs

-- a is a first part of g
abbrev pub Front : List ℕ → List ℕ → Type 0
Front a g = (rest : List ℕ) × (a ++ rest ≡ g)

abbrev pub is_half : Phase → Bool
is_half Asked = false
is_half Half = true
is_half Open = false
is_half Gone = false

-- What a text says is true of the connection d: its bytes were given, at their places; last, if it is the end of a closed one; upto, all and edge say no more than is so.
pub record Told (cfg : Settings) (p : Packet) (d : Conn) : Type 0 where
  pub bytes : (i b : ℕ) → AtPlace i b p.text → AtPlace (p.place + i) b d.given
  pub last : p.last ≡ true → (d.closed ≡ true) × (p.place + length p.text ≡ length d.given)
  pub upto : p.upto ≤ length d.got
  pub all : p.all ≡ true → d.ended ≡ true
  pub edge : p.edge ≤ d.taken + cfg.room

-- What an end with these connections may send: an ask of one that asks, which may bring first bytes; a yes of one that has the other's tag; any text of an open one that tells the truth; any bye.
pub data Said (cfg : Settings) (cs : List Conn) : Packet → Type 0 where
  asking : (c : Conn) (p : Packet) → Memᴰ c cs → is_asked c.phase ≡ true → p.kind ≡ Ask → p.from ≡ c.mine → Front p.text c.given → Said cfg cs p
  yes_of : (c : Conn) → Memᴰ c cs → is_asked c.phase ≡ false → Said cfg cs (bare Yes c.mine c.theirs)
  truthful : (c : Conn) (p : Packet) → Memᴰ c cs → is_open c.phase ≡ true → p.kind ≡ Text → p.from ≡ c.mine → p.to ≡ c.theirs → Told cfg p c → Said cfg cs p
  bye : (a b : ℕ) → Said cfg cs (bare Bye a b)

abbrev pub AllSaid : Settings → List Conn → List Packet → Type 0
AllSaid cfg cs ps = (p : Packet) → Memᴰ p ps → Said cfg cs p

-- at most n of the bytes whose turn has come are handed on
abbrev pub advance_by : ℕ → Conn → Conn
advance_by n c = settle c.kept (turn n (length c.got) c.kept) c.end c

abbrev pub with_kept : List Piece → Conn → Conn
with_kept ks c = record { mine = c.mine; theirs = c.theirs; phase = c.phase; opened = c.opened; given = c.given; closed = c.closed; sees = c.sees; upto = c.upto; all = c.all; got = c.got; taken = c.taken; kept = ks; end = c.end; ended = c.ended }

-- one that asked gives way: it is half, and answers the tag t
abbrev pub half_with : ℕ → Conn → Conn
half_with t c = record { mine = c.mine; theirs = t; phase = Half; opened = c.opened; given = c.given; closed = c.closed; sees = c.sees; upto = c.upto; all = c.all; got = c.got; taken = c.taken; kept = c.kept; end = c.end; ended = c.ended }

-- a half connection that has got first bytes with the ask
abbrev pub half_new : ℕ → ℕ → List ℕ → Conn
half_new m t ws = record { mine = m; theirs = t; phase = Half; opened = false; given = []; closed = false; sees = 0; upto = 0; all = false; got = ws; taken = 0; kept = []; end = NotSaid; ended = false }

-- What may become of a connection at one move, with these packets coming: what its user does; that it is gone; that it hears a yes or a text, of which so many bytes are handed on at once;
-- that bytes are handed on later; that kept bytes are dropped; that one that asked gives way to the ask of a smaller tag.
pub data Edit (cfg : Settings) (ps : List Packet) (c : Conn) : Conn → Type 0 where
  given-more : (bs : List ℕ) → Edit cfg ps c (gives bs c)
  closed-now : Edit cfg ps c (closes c)
  taken_more : (k : ℕ) → Edit cfg ps c (takes k c)
  gone-now : Edit cfg ps c (in_phase Gone c)
  opened-by : (p : Packet) → Memᴰ p ps → p.kind ≡ Yes → c.mine ≡ p.to → is_asked c.phase ≡ true → Edit cfg ps c (open_with p.from c)
  heard-by : (n : ℕ) (p : Packet) → Memᴰ p ps → p.kind ≡ Text → c.mine ≡ p.to → c.theirs ≡ p.from → is_asked c.phase ≡ false → Edit cfg ps c (advance_by n (heard cfg p (open_with p.from c)))
  handed : (n : ℕ) → c.opened ≡ true → Edit cfg ps c (advance_by n c)
  dropped : (ks : List Piece) → ((x : Piece) → Memᴰ x ks → Memᴰ x c.kept) → c.opened ≡ true → Edit cfg ps c (with_kept ks c)
  yielded : (p : Packet) → Memᴰ p ps → p.kind ≡ Ask → is_asked c.phase ≡ true → p.from < c.mine → Edit cfg ps c (half_with p.from c)

-- One move of a world: nothing; an end begins or ends to listen; it sends; the connection of one tag is edited, and byes may go out; one is opened; an ask is answered by a new one.
pub data Move (cfg : Settings) (w : World) : World → Type 0 where
  stays : Move cfg w w
  listens : (o : Who) (b : Bool) → Move cfg w (put o (record { conns = (end o w).conns; listens = b }) [] [] w)
  tells : (o : Who) (ps : List Packet) → AllSaid cfg (end o w).conns ps → Move cfg w (put o (end o w) ps [] w)
  edits : (o : Who) (t : ℕ) (f : Conn → Conn) (ps : List Packet) → ((c : Conn) → (f c).mine ≡ c.mine) →
      ((c : Conn) → At o w c → c.mine ≡ t → gone c.phase ≡ false → Edit cfg (coming_to o w) c (f c)) → ((p : Packet) → Memᴰ p ps → (x : ℕ) × (y : ℕ) × (p ≡ bare Bye x y)) →
      Move cfg w (put o (changed t f (end o w)) ps [] w)
  asks : (o : Who) (t : ℕ) → is_in t w.drawn ≡ false → (t == 0) ≡ false → Move cfg w (put o (added (new Asked t 0) (end o w)) (bare Ask t 0 ∷ []) (t ∷ []) w)
  answers : (o : Who) (p : Packet) (t : ℕ) (ws : List ℕ) → Memᴰ p (coming_to o w) → p.kind ≡ Ask → is_in t w.drawn ≡ false → (t == 0) ≡ false → Front ws p.text → length ws ≤ cfg.room →
      Move cfg w (put o (added (half_new t p.from ws) (end o w)) (bare Yes t p.from ∷ []) (t ∷ []) w)

-- so many moves, one after the other
pub data Chain (cfg : Settings) (w : World) : World → Type 0 where
  none : Chain cfg w w
  one_more : (v u : World) → Chain cfg w v → Move cfg v u → Chain cfg w u

-- all that is promised of one world
pub record Promised (cfg : Settings) (w : World) : Type 0 where
  pub tagged : T (apart (tags (end L w).conns ++ tags (end R w).conns))
  pub holds : (o : Who) (c : Conn) → At o w c → c.opened ≡ true → Holds w o c
  pub unique : (o : Who) (c d : Conn) → At o w c → At o w d → c.opened ≡ true → d.opened ≡ true → c.theirs ≡ d.theirs → c ≡ d
  pub told : (o : Who) (c : Conn) → At o w c → c.ended ≡ ends c.end (length c.got)
  pub room : (o : Who) (c : Conn) → At o w c → (c.taken ≤ length c.got) × (length c.got ≤ c.taken + cfg.room) × ((x : Piece) → Memᴰ x c.kept → (length c.got ≤ x.place) × (x.place < c.taken + cfg.room))
  pub kept : (o : Who) (c d : Conn) → At o w c → At (other o) w d → c.opened ≡ true → One c d → (x : Piece) → Memᴰ x c.kept → AtPlace x.place x.byte d.given
  pub edge : (o : Who) (c d : Conn) → At o w c → At (other o) w d → c.opened ≡ true → One c d → c.sees ≤ d.taken + cfg.room

-- Whoever moves by these rules keeps the promise.
abbrev pub RulesHold : Type 0
RulesHold = (cfg : Settings) (w : World) → Chain cfg start w → Promised cfg w

-- The model's events are moves by these rules.
abbrev pub EventsMove : Type 0
EventsMove = (cfg : Settings) (es : List Ev) (e : Ev) → Move cfg (world cfg es) (step cfg e (world cfg es))
