use Rattle.hold.proofs.worked_cases.Goals as goal
use Rattle.hold.proofs.Cases.{worked_cases_lem}

pub returns : goal.returns
returns c = worked_cases_lem
