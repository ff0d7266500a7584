use Rattle.std.proofs.Common.{◌≡◌, ◌<◌, length, get_or, arith, rules}
use Rattle.script.proofs.Reading.{headed_line}
use Rattle.script.proofs.read.front.Goals as goal

pub returns : goal.returns
returns c =
    let l : 0 < length c.args.line.now = omega arith in
    let n : get_or c.args.line.now 0 0 ≡ 35 → ⊥ = search rules in
    headed_line _ _ _ _ l n c.in_ok-head.ensures c.headed.ensures
