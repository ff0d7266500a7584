use Rattle.std.proofs.Common.{arith}
use Rattle.lent.proofs.Receivers.{keep_part, keep-nothing}
use Rattle.lent.proofs.receiver.Receiver.keep_all.Goals as goal

pub returns-then-from-to : goal.returns-then-from-to
returns-then-from-to c g ks h =
    keep_part c.args.window c.args.self.got c.args.self.taken c.args.incoming.now.packet.head.place c.max-from.result c.min-to.result c.args.incoming.now.packet.text.now c.args.inbox.now.ring c.args.inbox.now.bits c.fill_gaps.new.self.ring c.fill_gaps.new.self.bits c.args.incoming.now.within (omega arith) c.if-from-to.true c.fill_gaps.ensures g ks
    (omega (arith, h.got_all, h.below, h.small, h.narrow)) h

pub returns-else-from-to : goal.returns-else-from-to
returns-else-from-to c g ks h =
    keep-nothing c.args.window c.args.self.got c.args.self.taken c.args.incoming.now.packet.head.place c.args.incoming.now.packet.text.now c.args.inbox.now.ring c.args.inbox.now.bits c.args.incoming.now.within g ks (omega (arith, h.got_all, h.below, h.small, h.narrow)) h
