use Rattle.std.proofs.Common.{refl, arith}
use Rattle.lent.proofs.Senders.{send_more}
use Rattle.lent.proofs.sender.Sender.give.Goals as goal

pub returns-clause-waits : goal.returns-clause-waits
returns-clause-waits c g w = send_more c.args.self.given c.args.self.upto c.min-n.result c.saturating_sub-skip.result c.args.ring.now c.put.new.ring c.args.bytes.now _ g (omega arith) (omega arith) c.saturating_sub-skip.ensures refl c.put.ensures w
