use Rattle.wire.proofs.Trip.{one_way}
use Rattle.wire.proofs.laws.one_way.Goals as goal

pub returns : goal.returns
returns c = one_way
