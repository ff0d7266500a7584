-- What a look at a table shows.
use Rattle.std.specs.Prelude.{◌≡◌, ℕ, List, Option}
use Rattle.hold.specs.Conn.{Conn}
use Rattle.hold.specs.Packet.{Settings}
use Rattle.hold.specs.World.{by_tag}
use Rattle.connection.specs.Stand.{Rings}
use Rattle.ledger.specs.Books.{view_of}
use Rattle.ledger.specs.declared.record.View.{View}
use Rattle.table.specs.Lodges.{Lodges}
use Rattle.table.specs.declared.Table.{Table}

-- the connection of a tag, for whatever connections the table stands
abbrev pub SeenIn : Table → ℕ → Option View → Type 0
SeenIn x t r = (cfg : Settings) (mem : ℕ → Rings) (cs : List Conn) → Lodges cfg mem x cs → r ≡ view_of (by_tag t cs)
