use Rattle.wire.proofs.Damage.{run_is_refused_lem}
use Rattle.wire.proofs.laws.run_is_refused.Goals as goal

pub returns : goal.returns
returns c = run_is_refused_lem
