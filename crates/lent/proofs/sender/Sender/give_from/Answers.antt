use Rattle.std.proofs.Common.{◌≡◌, ℕ, ◌+◌, ◌-◌, take, ap, ◌∙◌, arith}
use Rattle.lent.specs.Ring.{written}
use Rattle.lent.proofs.Senders.{send_more}
use Rattle.lent.proofs.sender.Sender.give_from.Goals as goal

pub returns-clause-waits : goal.returns-clause-waits
returns-clause-waits g c h w =
    let f = c.fill_from-n.ensures in
    let rest = g.S.Source.rest c.args.source.now in
    let all : c.fill_from-n.result ≡ c.fill_from-n.result - 0 = omega arith in
    let at : c.args.self.given ≡ c.args.self.given + 0 = omega arith in
    send_more c.args.self.given c.args.self.upto c.fill_from-n.result 0 c.args.ring.now c.fill_from-n.new.ring rest (take c.fill_from-n.result rest) h f.within.1 (omega (arith, f.within.0)) (omega (arith, f.within.0))
    (ap (λ (k : ℕ). take k rest) all) (f.ring ∙ ap (λ (p : ℕ). written p (take c.fill_from-n.result rest) c.args.ring.now) at) w
