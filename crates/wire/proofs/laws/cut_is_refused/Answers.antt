use Rattle.wire.proofs.Cuts.{cut_is_refused_lem}
use Rattle.wire.proofs.laws.cut_is_refused.Goals as goal

pub returns : goal.returns
returns c = cut_is_refused_lem
