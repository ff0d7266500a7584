use Rattle.hold.proofs.code_can_be.Goals as goal
use Rattle.hold.proofs.Ideal.{code_can_be_lem}

pub returns : goal.returns
returns c = code_can_be_lem
