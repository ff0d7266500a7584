use Rattle.pacing.proofs.Saying.{answered, says_all, silent, below_sees}
use Rattle.pacing.proofs.promises.text_promise.Goals as goal

pub returns : goal.returns
returns c = record { answered = answered; says = says_all; silent = silent; below = below_sees }
