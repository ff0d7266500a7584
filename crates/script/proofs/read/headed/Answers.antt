use Rattle.script.proofs.Reading.{at_side_lem}
use Rattle.script.proofs.read.headed.Goals as goal

pub returns-in_ok-call-in-At : goal.returns-in_ok-call-in-At
returns-in_ok-call-in-At c = at_side_lem _ _ _ _ _ _ c.in-At.is c.in_ok-verb-in-At.ensures c.in_ok-call-in-At.ensures
