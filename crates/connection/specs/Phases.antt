-- The model's phases and ends that those of the code are.
use Rattle.std.specs.Prelude.{ℕ, None, Some, Option}
use Rattle.hold.specs.Conn as n
use Rattle.connection.specs.declared.phase.Phase.{Phase}
use Rattle.connection.specs.declared.phase.Phase.TheVariants.{Asked, Half, Open, Gone}

abbrev pub phase_of : Phase → n.Phase
phase_of Asked = n.Asked
phase_of Half = n.Half
phase_of Open = n.Open
phase_of Gone = n.Gone

abbrev pub last_of : Option ℕ → n.Last
last_of None = n.NotSaid
last_of (Some p) = n.At p
