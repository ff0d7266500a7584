use Rattle.wire.proofs.Trip.{read_is_written_lem}
use Rattle.wire.proofs.laws.read_is_written.Goals as goal

pub returns : goal.returns
returns c = read_is_written_lem
