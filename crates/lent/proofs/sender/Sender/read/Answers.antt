use Rattle.std.proofs.Common.{min, length, arith}
use Rattle.lent.proofs.Senders.{read_into, left_behind}
use Rattle.lent.proofs.sender.Sender.read.Goals as goal

pub returns-clause-text : goal.returns-clause-text
returns-clause-text c g w lo = read_into c.args.self.now.given c.args.self.now.upto c.args.span.place (min c.args.span.most (length c.args.out.now)) c.min-n.result c.args.ring.now c.args.out.now c.get.new.out g (omega arith) (omega arith) c.get.ensures w lo

pub returns-clause-rest : goal.returns-clause-rest
returns-clause-rest c = left_behind c.args.span.place c.min-n.result c.args.ring.now c.args.out.now c.get.new.out (omega arith) c.get.ensures
