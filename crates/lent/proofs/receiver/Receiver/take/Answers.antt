use Rattle.std.proofs.Common.{arith}
use Rattle.lent.proofs.Receivers.{receive_take, taken_bytes}
use Rattle.lent.proofs.receiver.Receiver.take.Goals as goal

pub returns-clause-holds : goal.returns-clause-holds
returns-clause-holds c w ring bits g ks h = receive_take w c.args.self.got c.args.self.taken c.min-n.result ring bits g ks (omega arith) h

pub returns-clause-bytes : goal.returns-clause-bytes
returns-clause-bytes c w bits g ks h = taken_bytes w c.args.self.got c.args.self.taken c.min-n.result c.args.ring.now bits c.args.out.now c.get.new.out g ks (omega arith) c.get.ensures h
