use Rattle.std.proofs.Common.{◌-◌, length, arith}
use Rattle.wire.proofs.Digits.{number32_is}
use Rattle.wire.proofs.format.Frame.check_fits.Goals as goal

pub returns : goal.returns
returns c =
    let s = c.args.self.bytes.now in
    let check = number32_is s _ (length s - 4) (omega arith) c.array_at.ensures in
    cc
