use Rattle.std.proofs.Common.{◌≡◌, arith}
use Rattle.std.proofs.lemmas.Bool.Decides.{nat_tests}
use Rattle.text.specs.Words.{shorter}
use Rattle.text.proofs.Choosing.{choose-found, choose_more, choose_none}
use Rattle.text.proofs.word.choose.Goals as goal
use Rattle.text.proofs.word.choose.Goals.{then-at-far, else-at-far}

pub returns-in-Ok : goal.returns-in-Ok
returns-in-Ok g c = choose-found _ _ _ _ _ _ c.loop-word.invariant _ _ c.loop-word-test.true c.word-item.is (cc (c.in-Ok.ensures, c.spelling.ensures))

pub loop-word-preserved : goal.loop-word-preserved
loop-word-preserved g c =
    let m : c.if-at-far.far.now ≡ shorter c.in-Err.at.now c.loop-word.far.now = elim c.if-at-far.branch [ then-at-far w ↦ grind (arith, nat_tests) | else-at-far w ↦ grind (arith, nat_tests) ] in
    choose_more _ _ _ _ _ _ c.loop-word.invariant _ _ _ c.loop-word-test.true c.word-item.is (cc (c.in-Err.ensures, c.spelling.ensures)) m

pub returns : goal.returns
returns g c = choose_none _ _ _ _ _ _ c.loop-word.invariant c.loop-word-test.false
