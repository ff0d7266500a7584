use Rattle.std.proofs.Common.{◌/◌, ◌%◌, get_or, sym, ◌∙◌, arith}
use Rattle.lent.proofs.Words.{bit-read}
use Rattle.lent.proofs.Marks.{up_at}
use Rattle.lent.proofs.bits.is_up.Goals as goal

pub returns : goal.returns
returns c = bit-read (get_or c.args.bits.now (c.slot-at.result / 64) 0) (c.slot-at.result % 64) ∙
    sym (up_at c.args.bits.now c.args.place (c.slot-at.result / 64) (c.slot-at.result % 64) (omega arith) (omega arith))
