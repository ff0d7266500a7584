-- For which connections of the model one of the code stands.
use Rattle.std.specs.Prelude.{◌≡◌, ℕ, ◌+◌, ◌-◌, ◌≤◌, min, Bool, true, false, not, ◌&&◌, List, ◌++◌, length, take, drop, ◌==◌}
use Rattle.hold.specs.Packet as m
use Rattle.hold.specs.Conn as n
use Rattle.hold.specs.World.{gone}
use Rattle.packet.specs.Sizes.{capacity}
use Rattle.lent.specs.Bits.{AllAre}
use Rattle.lent.specs.Rings.{Waits, Holds}
use Rattle.lent.specs.declared.inbox.Inbox.{Inbox}
use Rattle.lent.specs.declared.inbox.Memory.{Memory}
use Rattle.connection.specs.Phases.{phase_of, last_of}
use Rattle.connection.specs.declared.stream.Stream.{Stream}
use Rattle.connection.specs.declared.pairing.Pairing.{Pairing}
use Rattle.connection.specs.declared.connection.Connection.{Connection}

-- what the code does not hold any more, or never did
pub record Past : Type 0 where
  pub opened : Bool
  pub given : List ℕ
  pub got : List ℕ
  pub kept : List m.Piece

-- the model's connection, from the code's and its past
abbrev pub conn_of : Connection → Past → n.Conn
conn_of x h = record {
  mine = x.pairing.mine;
  theirs = x.pairing.theirs;
  phase = phase_of x.pairing.phase;
  opened = h.opened;
  given = h.given;
  closed = x.stream.closed;
  sees = x.stream.sees;
  upto = x.stream.sender.upto;
  all = x.stream.all;
  got = h.got;
  taken = x.stream.receiver.taken;
  kept = h.kept;
  end = last_of x.stream.end;
  ended = x.stream.ended;
}

-- the memory of a connection: the ring of the bytes to be sent, that of the bytes that came, and the bits of those kept
pub record Rings : Type 0 where
  pub out : List ℕ
  pub into : List ℕ
  pub bits : List ℕ

abbrev pub rings : List ℕ → List ℕ → List ℕ → Rings
rings out into bits = record { out = out; into = into; bits = bits }

-- with a ring of bytes to be sent, and an inbox
abbrev pub beside : List ℕ → Inbox → Rings
beside out inbox = rings out inbox.ring inbox.bits

abbrev pub rings_of : Memory → Rings
rings_of memory = beside memory.out memory.inbox

-- memory for a new connection: whatever the rings hold, no bit is up
pub record Fresh (mem : Rings) : Type 0 where
  pub out : length mem.out ≡ capacity
  pub into : length mem.into ≡ capacity
  pub bits : AllAre 0 capacity false mem.bits

-- x, with its memory, stands for c
pub record Stand1 (cfg : m.Settings) (x : Connection) (mem : Rings) (c : n.Conn) : Type 0 where
  pub past : Past
  pub is : conn_of x past ≡ c
  pub waits : Waits x.stream.sender mem.out past.given
  pub holds : Holds cfg.room x.stream.receiver mem.into mem.bits past.got past.kept

-- x is what is left of a connection c that is gone: its user may still take what it got
pub record LeftOver (cfg : m.Settings) (x : Connection) (mem : Rings) (c : n.Conn) : Type 0 where
  pub phase : gone (phase_of x.pairing.phase) ≡ true
  pub over : gone c.phase ≡ true
  pub mine : x.pairing.mine ≡ c.mine
  pub ended : x.stream.ended ≡ c.ended
  pub kept : List m.Piece
  pub holds : Holds cfg.room x.stream.receiver mem.into mem.bits c.got kept

-- what x became stands for what f makes of whatever x stood for
abbrev pub ActsAs : m.Settings → Connection → Rings → Connection → Rings → (n.Conn → n.Conn) → Type 0
ActsAs cfg x mem y mem' f = (c : n.Conn) → Stand1 cfg x mem c → Stand1 cfg y mem' (f c)

abbrev pub join : Pairing → Stream → Connection
join q s = record { pairing = q; stream = s }

-- the same of streams, between whomever they are
abbrev pub Flows : m.Settings → Stream → Rings → Stream → Rings → (n.Conn → n.Conn) → Type 0
Flows cfg s mem t mem' f = (q : Pairing) → ActsAs cfg (join q s) mem (join q t) mem' f

-- a stream with nothing given and nothing heard
abbrev pub Began : Stream → Type 0
Began s = (cfg : m.Settings) (q : Pairing) (mem : Rings) → cfg.room ≤ capacity → Fresh mem → Stand1 cfg (join q s) mem (n.new (phase_of q.phase) q.mine q.theirs)

-- n bytes that were got and not taken were moved to the front of out
pub record Moved (s : Stream) (ring before out : List ℕ) (n : ℕ) : Type 0 where
  pub count : n ≡ min (length before) (s.receiver.got - s.receiver.taken)
  pub bytes : (window : ℕ) (bits g : List ℕ) (ks : List m.Piece) → Holds window s.receiver ring bits g ks → out ≡ take n (drop s.receiver.taken g) ++ drop n before

-- what a user took of the connection c: n bytes, which stand at the front of out
pub record Took (c : n.Conn) (before out : List ℕ) (n : ℕ) : Type 0 where
  pub count : n ≡ min (length before) (length c.got - c.taken)
  pub bytes : out ≡ take n (drop c.taken c.got) ++ drop n before

-- what is left of a connection that is gone, after n bytes of it were taken
pub record Drained (cfg : m.Settings) (x y : Connection) (mem : Rings) (c : n.Conn) (before out : List ℕ) (n : ℕ) : Type 0 where
  pub left : LeftOver cfg y mem c
  pub count : n ≡ min (length before) (length c.got - x.stream.receiver.taken)
  pub bytes : out ≡ take n (drop x.stream.receiver.taken c.got) ++ drop n before

-- the text with so many bytes from a place on, and all that this end has to say
abbrev pub text_at : m.Settings → ℕ → ℕ → n.Conn → m.Packet
text_at cfg p k c = record {
  kind = m.Text;
  from = c.mine;
  to = c.theirs;
  place = p;
  text = take k (drop p c.given);
  last = c.closed && not c.all && (p + length (take k (drop p c.given)) == length c.given);
  upto = length c.got;
  all = c.ended;
  edge = c.taken + cfg.room;
}
