use Rattle.std.proofs.Common.{arith}
use Rattle.lent.proofs.Receivers.{receive_advance}
use Rattle.lent.proofs.receiver.Receiver.advance.Goals as goal

pub returns-clause-holds : goal.returns-clause-holds
returns-clause-holds c ring g ks h =
    receive_advance c.args.window c.args.self.got c.args.self.taken c.run-n.result c.min-room.result ring c.args.bits.now c.mark.new.bits c.run-n.ensures.within c.run-n.ensures.all c.run-n.ensures.gap c.mark.ensures g ks (omega (arith, h.got_all, h.below, h.small, h.narrow)) h
