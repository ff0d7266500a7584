use Rattle.wire.proofs.Cuts.{longer_is_refused_lem}
use Rattle.wire.proofs.laws.longer_is_refused.Goals as goal

pub returns : goal.returns
returns c = longer_is_refused_lem
