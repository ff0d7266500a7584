use Rattle.wire.proofs.Damage.{other_check_is_refused_lem}
use Rattle.wire.proofs.laws.other_check_is_refused.Goals as goal

pub returns : goal.returns
returns c = other_check_is_refused_lem
