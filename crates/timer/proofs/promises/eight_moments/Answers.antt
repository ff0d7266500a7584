use Rattle.std.proofs.Common.{refl, arith}
use Rattle.std.proofs.lemmas.Bool.Decides.{nat_tests}
use Rattle.timer.proofs.promises.eight_moments.Goals as goal

pub returns : goal.returns
returns c = (refl, λ start later. grind (arith, nat_tests))
