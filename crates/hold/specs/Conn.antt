-- One connection at one end: what it is told and hears, and what it may say. Assumes nothing.
use Rattle.std.specs.Prelude.{ℕ, zero, suc, ◌+◌, ◌-◌, Bool, true, false, cond, not, ◌&&◌, ◌||◌, List, [], ◌∷◌, ◌++◌, length, take, drop, ◌==◌, nat_lt}
use Rattle.hold.specs.Packet.{Settings, Text, Packet, Piece, has, byte_at, larger, lower}

pub data Phase : Type 0 where
  Asked : Phase
  Half : Phase
  Open : Phase
  Gone : Phase

pub data Last : Type 0 where
  NotSaid : Last
  At : (place : ℕ) → Last

-- given: all bytes that the user gave; closed: and no more will come; sees: the other's room; upto, all: what the other said it has.
-- got: all bytes handed on to the user, in order; taken: how many of them the user took; kept: bytes that came before their turn; end: where the other's end is; ended: the user was told so.
pub record Conn : Type 0 where
  pub mine : ℕ
  pub theirs : ℕ
  pub phase : Phase
  pub opened : Bool
  pub given : List ℕ
  pub closed : Bool
  pub sees : ℕ
  pub upto : ℕ
  pub all : Bool
  pub got : List ℕ
  pub taken : ℕ
  pub kept : List Piece
  pub end : Last
  pub ended : Bool

abbrev pub new : Phase → ℕ → ℕ → Conn
new p m t = record { mine = m; theirs = t; phase = p; opened = false; given = []; closed = false; sees = 0; upto = 0; all = false; got = []; taken = 0; kept = []; end = NotSaid; ended = false }

abbrev pub in_phase : Phase → Conn → Conn
in_phase p c = record { mine = c.mine; theirs = c.theirs; phase = p; opened = c.opened; given = c.given; closed = c.closed; sees = c.sees; upto = c.upto; all = c.all; got = c.got; taken = c.taken; kept = c.kept; end = c.end; ended = c.ended }

abbrev pub open_with : ℕ → Conn → Conn
open_with t c = record { mine = c.mine; theirs = t; phase = Open; opened = true; given = c.given; closed = c.closed; sees = c.sees; upto = c.upto; all = c.all; got = c.got; taken = c.taken; kept = c.kept; end = c.end; ended = c.ended }

-- the user gives bytes, says that no more will come, takes bytes
abbrev pub gives : List ℕ → Conn → Conn
gives bs c = record { mine = c.mine; theirs = c.theirs; phase = c.phase; opened = c.opened; given = cond c.closed c.given (c.given ++ bs); closed = c.closed; sees = c.sees; upto = c.upto; all = c.all; got = c.got; taken = c.taken; kept = c.kept; end = c.end; ended = c.ended }

abbrev pub closes : Conn → Conn
closes c = record { mine = c.mine; theirs = c.theirs; phase = c.phase; opened = c.opened; given = c.given; closed = true; sees = c.sees; upto = c.upto; all = c.all; got = c.got; taken = c.taken; kept = c.kept; end = c.end; ended = c.ended }

abbrev pub takes : ℕ → Conn → Conn
takes k c = record { mine = c.mine; theirs = c.theirs; phase = c.phase; opened = c.opened; given = c.given; closed = c.closed; sees = c.sees; upto = c.upto; all = c.all; got = c.got; taken = lower (c.taken + k) (length c.got); kept = c.kept; end = c.end; ended = c.ended }

-- bytes that come: kept if their turn hasn't come, there is room, and they aren't there already
unfoldable pub keep : ℕ → ℕ → ℕ → List ℕ → List Piece → List Piece
keep next edge p [] ks = ks
keep next edge p (b ∷ bs) ks = keep next edge (p + 1) bs (cond (not (nat_lt p next) && nat_lt p edge && not (has p ks)) (record { place = p; byte = b } ∷ ks) ks)

-- bytes whose turn has come, at most so many
unfoldable pub turn : ℕ → ℕ → List Piece → List ℕ
turn zero next ks = []
turn (suc n) next ks = cond (has next ks) (byte_at next ks ∷ turn n (next + 1) ks) []

abbrev pub ends : Last → ℕ → Bool
ends NotSaid n = false
ends (At p) n = p == n

abbrev pub said : Bool → ℕ → Last → Last
said l p (At q) = At q
said l p NotSaid = cond l (At p) NotSaid

-- those from a place on
unfoldable pub from : ℕ → List Piece → List Piece
from p [] = []
from p (x ∷ xs) = cond (nat_lt x.place p) (from p xs) (x ∷ from p xs)

abbrev pub settle : List Piece → List ℕ → Last → Conn → Conn
settle ks more e c = record {
  mine = c.mine;
  theirs = c.theirs;
  phase = c.phase;
  opened = c.opened;
  given = c.given;
  closed = c.closed;
  sees = c.sees;
  upto = c.upto;
  all = c.all;
  got = c.got ++ more;
  taken = c.taken;
  kept = from (length (c.got ++ more)) ks;
  end = e;
  ended = c.ended || ends e (length (c.got ++ more));
}

abbrev pub heard : Settings → Packet → Conn → Conn
heard cfg p c = record {
  mine = c.mine;
  theirs = c.theirs;
  phase = c.phase;
  opened = c.opened;
  given = c.given;
  closed = c.closed;
  sees = larger c.sees p.edge;
  upto = larger c.upto p.upto;
  all = c.all || p.all;
  got = c.got;
  taken = c.taken;
  kept = keep (length c.got) (c.taken + cfg.room) p.place p.text c.kept;
  end = said p.last (p.place + length p.text) c.end;
  ended = c.ended;
}

abbrev pub advance : Conn → Conn
advance c = settle c.kept (turn (length c.kept) (length c.got) c.kept) c.end c

-- a packet with text for this connection
abbrev pub hears : Settings → Packet → Conn → Conn
hears cfg p c = advance (heard cfg p c)

-- the packet with so many bytes from a place on, cut to what was given and to the room that is seen; with all that this end has to say
abbrev pub says : Settings → ℕ → ℕ → Conn → Packet
says cfg p k c = record {
  kind = Text;
  from = c.mine;
  to = c.theirs;
  place = p;
  text = take (lower k (c.sees - p)) (drop p c.given);
  last = c.closed && not c.all && (p + length (take (lower k (c.sees - p)) (drop p c.given)) == length c.given);
  upto = length c.got;
  all = c.ended;
  edge = c.taken + cfg.room;
}

-- what a connection sends by itself, when its clock says so or a text is to be answered: from the first byte that the other hasn't confirmed,
-- as much as there is room for, and one byte if there is none; the end, if it is reached; and all that there is to say of the other way
abbrev pub due_text : Settings → Conn → List ℕ
due_text cfg c = take (larger 1 (lower cfg.size (c.sees - c.upto))) (drop c.upto c.given)

abbrev pub due : Settings → Conn → Packet
due cfg c = record {
  kind = Text;
  from = c.mine;
  to = c.theirs;
  place = c.upto;
  text = due_text cfg c;
  last = c.closed && not c.all && (c.upto + length (due_text cfg c) == length c.given);
  upto = length c.got;
  all = c.ended;
  edge = c.taken + cfg.room;
}
