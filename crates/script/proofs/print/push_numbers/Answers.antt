use Rattle.script.proofs.Printing.{counted_more, counted_all}
use Rattle.script.proofs.print.push_numbers.Goals as goal

pub loop-number-preserved : goal.loop-number-preserved
loop-number-preserved c = counted_more _ _ _ _ c.loop-number.invariant _ _ c.loop-number-test.true c.in_ok-push.ensures.items c.in_ok-push_number.ensures

pub returns : goal.returns
returns c = counted_all _ _ _ _ c.loop-number.invariant c.loop-number-test.false
