-- Texts that go out without a call.
use Rattle.std.specs.Prelude.{◌≡◌, ℕ, ◌≤◌, None, Option}
use Rattle.hold.specs.World.{End, Found, NotThere, Sends, There, Who, World, by_tag, end, step}
use Rattle.packet.specs.Packets.{sent}
use Rattle.packet.specs.declared.packet.Packet.{Packet}
use Rattle.endpoint.specs.Stands.{Stands, cfg}
use Rattle.endpoint.specs.Steps.{After}
use Rattle.endpoint.specs.declared.Endpoint.{Endpoint}

-- the first byte that the other has not confirmed
abbrev pub upto_of : Found → ℕ
upto_of NotThere = 0
upto_of (There c) = c.upto

-- a text from there on
abbrev pub Answers : Endpoint → ℕ → Option Packet → Type 0
Answers x tag r = (o : Who) (w : World) → Stands x (end o w) → After x (sent r) o w (step (cfg x) (Sends o tag (upto_of (by_tag tag (end o w).conns)) (cfg x).size) w)

-- A text from a place on with at most k bytes, where that place is not confirmed yet and a text may have so many; else nothing goes out.
pub record Says (x : Endpoint) (tag place k : ℕ) (r : Option Packet) : Type 0 where
  pub may : (o : Who) (w : World) → Stands x (end o w) → upto_of (by_tag tag (end o w).conns) ≤ place → k ≤ (cfg x).size → After x (sent r) o w (step (cfg x) (Sends o tag place k) w)
  pub other : (e : End) → Stands x e → ((upto_of (by_tag tag e.conns) ≤ place) × (k ≤ (cfg x).size) → ⊥) → r ≡ None
