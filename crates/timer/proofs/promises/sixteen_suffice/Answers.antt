use Rattle.timer.proofs.Enough.{sixteen_suffice_lem}
use Rattle.timer.proofs.promises.sixteen_suffice.Goals as goal

pub returns : goal.returns
returns c = sixteen_suffice_lem
