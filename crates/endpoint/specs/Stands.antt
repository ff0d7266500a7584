-- For which ends of the model an end of the code stands.
use Rattle.std.specs.Prelude.{◌≡◌, ℕ, List, [], length, slice_index_or}
use Rattle.hold.specs.Packet as m
use Rattle.hold.specs.World.{End}
use Rattle.packet.specs.Agreed.{cfg_of}
use Rattle.connection.specs.Stand.{Rings, rings_of}
use Rattle.lanes.specs.declared.TheConstants.{LANES}
use Rattle.lent.specs.declared.inbox.Memory.{Memory}
use Rattle.table.specs.Lodges.{Lodges}
use Rattle.endpoint.specs.declared.Endpoint.{Endpoint}

abbrev pub cfg : Endpoint → m.Settings
cfg x = cfg_of x.settings

-- what is read past the end of a list of memories
abbrev pub nothing : Memory
nothing = record { out = []; inbox = record { ring = []; bits = [] } }

-- the memory of each lane
abbrev pub laid : List Memory → ℕ → Rings
laid memory l = rings_of (slice_index_or memory l nothing)

abbrev pub lent : Endpoint → ℕ → Rings
lent x l = laid x.memory.now l

abbrev pub Sized : Endpoint → Type 0
Sized x = length x.memory.now ≡ LANES

pub record Stands (x : Endpoint) (e : End) : Type 0 where
  pub listens : x.listens ≡ e.listens
  pub sized : Sized x
  pub table : Lodges (cfg x) (lent x) x.table e.conns
