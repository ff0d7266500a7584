use Rattle.wire.proofs.Trip.{written_is_read_lem}
use Rattle.wire.proofs.laws.written_is_read.Goals as goal

pub returns : goal.returns
returns c = written_is_read_lem
