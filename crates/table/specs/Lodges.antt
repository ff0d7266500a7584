-- For which connections of the model a table stands, each lane having its memory.
use Rattle.std.specs.Prelude.{ℕ, List, slice_index_or}
use Rattle.hold.specs.Conn.{Conn}
use Rattle.hold.specs.Packet.{Settings}
use Rattle.connection.specs.Fields.{blank}
use Rattle.connection.specs.Stand.{LeftOver, Rings, Stand1}
use Rattle.connection.specs.declared.connection.Connection.{Connection}
use Rattle.lanes.specs.Used.{used}
use Rattle.table.specs.Housed.{Housed}
use Rattle.table.specs.declared.Table.{Table}

-- a lane's connection stands for one of the model
abbrev pub InLane : Settings → (ℕ → Rings) → List Connection → ℕ → Conn → Type 0
InLane cfg mem xs l c = Stand1 cfg (slice_index_or xs l blank) (mem l) c

-- a lane has what is left of one that is gone
abbrev pub LeftIn : Settings → (ℕ → Rings) → List Connection → ℕ → Conn → Type 0
LeftIn cfg mem xs l c = LeftOver cfg (slice_index_or xs l blank) (mem l) c

abbrev pub Lodges : Settings → (ℕ → Rings) → Table → List Conn → Type 0
Lodges cfg mem x cs = Housed (InLane cfg mem x.conns) (LeftIn cfg mem x.conns) (used x.lanes) cs
