-- Steps of a connection that are not its stream's alone.
use Rattle.std.proofs.Common.{◌≡◌, ℕ, ◌-◌, min, true, List, length, ap, ◌∙◌, subst}
use Rattle.hold.specs.Packet as m
use Rattle.hold.specs.Conn.{Conn, open_with}
use Rattle.lent.specs.Rings.{Holds}
use Rattle.connection.specs.Fields.{opened_with}
use Rattle.connection.specs.Stand.{conn_of, Stand1, ActsAs, LeftOver, Moved, Took, Drained, Rings, rings, join}
use Rattle.connection.specs.declared.pairing.Pairing.{Pairing}
use Rattle.connection.specs.declared.stream.Stream.{Stream}
use Rattle.connection.specs.declared.connection.Connection.{Connection}

pub acts_open : (cfg : m.Settings) (x : Connection) (q : Pairing) (t : ℕ) → q ≡ opened_with t x.pairing → (mem : Rings) → ActsAs cfg x mem (join q x.stream) mem (open_with t)
acts_open cfg x q t e mem c st = record {
  past = record { opened = true; given = st.past.given; got = st.past.got; kept = st.past.kept };
  is = (ap (λ p. conn_of (join p x.stream) (record { opened = true; given = st.past.given; got = st.past.got; kept = st.past.kept })) e ∙ ap (open_with t) st.is);
  waits = st.waits;
  holds = st.holds;
}

pub took : (cfg : m.Settings) (x : Connection) (ring before out : List ℕ) (n : ℕ) → Moved x.stream ring before out n → (to bits : List ℕ) (c : Conn) → Stand1 cfg x (rings to ring bits) c → Took c before out n
took cfg x ring before out n moved to bits c st = subst (λ (d : Conn). Took d before out n) st.is
    (record { count = moved.count ∙ ap (λ k. min (length before) (k - x.stream.receiver.taken)) st.holds.got_all; bytes = moved.bytes cfg.room bits st.past.got st.past.kept st.holds })

pub drained : (cfg : m.Settings) (x : Connection) (s : Stream) (ring before out : List ℕ) (n : ℕ) → s.ended ≡ x.stream.ended →
    ((w : ℕ) (r bits g : List ℕ) (ks : List m.Piece) → Holds w x.stream.receiver r bits g ks → Holds w s.receiver r bits g ks) → Moved x.stream ring before out n →
    (to bits : List ℕ) (c : Conn) → LeftOver cfg x (rings to ring bits) c → Drained cfg x (join x.pairing s) (rings to ring bits) c before out n
drained cfg x s ring before out n ended held moved to bits c l = record {
  left = record { phase = l.phase; over = l.over; mine = l.mine; ended = ended ∙ l.ended; kept = l.kept; holds = held cfg.room ring bits c.got l.kept l.holds };
  count = moved.count ∙ ap (λ k. min (length before) (k - x.stream.receiver.taken)) l.holds.got_all;
  bytes = moved.bytes cfg.room bits c.got l.kept l.holds;
}
