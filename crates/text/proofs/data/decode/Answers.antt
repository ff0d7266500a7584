use Rattle.std.proofs.Common.{arith}
use Rattle.text.proofs.Inverse.{run_is}
use Rattle.text.proofs.Rounds.{decoded}
use Rattle.text.proofs.data.decode.Goals as goal

pub returns : goal.returns
returns c =
    let u = c.unescape.ensures in
    record { count = u.count; few = omega (arith, u.count, (run_is 1024 c.args.word.now).few); bytes = u.bytes; back = decoded _ _ _ _ u.count u.bytes }
