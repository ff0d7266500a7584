-- The table is the rule at each place below 256: antt computes both lists and compares them.
use Rattle.std.proofs.Common.{◌<◌, arith}
use Rattle.std.proofs.lemmas.List.FromFn.{get_or-map-range_with_len}
use Rattle.crc32c.specs.Crc.{eight_steps}
use Rattle.crc32c.proofs.entry.Goals as goal

pub returns : goal.returns
unfolding eight_steps
returns c =
    let h : c.args.i < 256 = omega arith in
    get_or-map-range_with_len eight_steps 0 256 c.args.i c.args.i 0 h (omega arith)
