use Rattle.std.proofs.Common.{◌≡◌, ◌+◌, ◌-◌, ◌/◌, get_or, arith}
use lib.Bits.{and_mask}
use Rattle.wire.proofs.format.Frame.fields_of.Goals as goal

pub returns : goal.returns
returns c =
    let s = c.args.self.bytes.now in
    let one = and_mask (get_or s 1 0) 1 in
    let two = and_mask (get_or s 1 0 / 2) 1 in
    let long : 44 + c.args.self.count - 44 ≡ c.args.self.count = omega arith in
    cc
