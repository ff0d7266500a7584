-- What texts say, and which bytes they have.
use Rattle.std.proofs.Common.{true, false, arith}
use Rattle.std.proofs.lemmas.Bool.Decides.{nat_tests}
use Rattle.pacing.specs.Promises.{Answered, SaysAll, Silent, BelowSees}

pub answered : Answered
answered n c true now o = grind (arith, nat_tests)
answered n c false now o = grind (arith, nat_tests)

pub says_all : SaysAll
says_all n c t now = grind (arith, nat_tests)

pub silent : Silent
silent n c now = (grind (arith, nat_tests), λ o. grind (arith, nat_tests))

pub below_sees : BelowSees
below_sees n c = (((λ h. omega arith), λ t e h. grind (arith, nat_tests)), λ why. omega arith)
