-- What is read off the fields of a connection, and a connection with nothing in it.
use Rattle.std.specs.Prelude.{ℕ, Bool, None, false, not, ◌&&◌, ◌||◌, ◌==◌, nat_lt}
use Rattle.hold.specs.World.{gone, is_asked}
use Rattle.connection.specs.Phases.{phase_of}
use Rattle.connection.specs.declared.phase.Phase.TheVariants.{Asked, Open, Gone}
use Rattle.connection.specs.declared.stream.Stream.{Stream}
use Rattle.connection.specs.declared.pairing.Pairing.{Pairing}
use Rattle.connection.specs.declared.connection.Connection.{Connection}

-- something was given, or the end said, that the other has not confirmed
abbrev pub stream_owes : Stream → Bool
stream_owes s = nat_lt s.sender.upto s.sender.given || (s.closed && not s.all)

-- the tag is this end's, and the connection is not gone
abbrev pub has_tag : ℕ → Pairing → Bool
has_tag t q = q.mine == t && not (gone (phase_of q.phase))

-- this end answers a tag of the other, and the connection is not gone
abbrev pub has_peer : ℕ → Pairing → Bool
has_peer t q = q.theirs == t && not (gone (phase_of q.phase)) && not (is_asked (phase_of q.phase))

-- a packet from a tag of the other is this connection's
abbrev pub partner : ℕ → Pairing → Bool
partner t q = not (is_asked (phase_of q.phase)) && q.theirs == t

abbrev pub opened_with : ℕ → Pairing → Pairing
opened_with t q = record { mine = q.mine; theirs = t; phase = Open }

abbrev pub over : Pairing → Pairing
over q = record { mine = q.mine; theirs = q.theirs; phase = Gone }

-- what is read past the end of a list of connections
abbrev pub blank : Connection
blank = record {
  pairing = record { mine = 0; theirs = 0; phase = Asked };
  stream = record {
    sender = record { given = 0; upto = 0 };
    receiver = record { got = 0; taken = 0 };
    closed = false;
    sees = 0;
    all = false;
    end = None;
    ended = false;
  };
}
