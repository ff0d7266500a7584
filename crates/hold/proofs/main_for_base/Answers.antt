use Rattle.hold.proofs.main_for_base.Goals as goal
use Rattle.hold.proofs.Base.{base-main}

pub returns : goal.returns
returns c = base-main
