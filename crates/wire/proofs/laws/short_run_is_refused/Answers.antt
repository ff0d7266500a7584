use Rattle.wire.proofs.Seam.{short_run_is_refused_lem}
use Rattle.wire.proofs.laws.short_run_is_refused.Goals as goal

pub returns : goal.returns
returns c = short_run_is_refused_lem
