use Rattle.std.proofs.Common.{sym, ap, ◌∙◌, arith}
use Rattle.lanes.specs.Used.{used, without}
use Rattle.lanes.proofs.Orders.{let_go, without_out}
use Rattle.lanes.proofs.Lanes.remove.Goals as goal

pub returns-in_default : goal.returns-in_default
returns-in_default c = sym (without_out c.args.lane (used c.args.self.now) c.in_default.ensures)

pub invariant_of-self : goal.invariant_of-self
invariant_of-self c =
    let x = c.args.self.now in
    let r = let_go x.order c.rotate_left.new.self c.in-Some.i x.count c.in-Some.ensures.0 x.few x.sized x.low x.apart c.rotate_left.ensures.len c.rotate_left.ensures.by_index in
    record { few = omega (arith, x.few); sized = r.sized ∙ x.sized; low = r.low; apart = r.apart }

pub returns-in-Some : goal.returns-in-Some
returns-in-Some c =
    let x = c.args.self.now in
    let r = let_go x.order c.rotate_left.new.self c.in-Some.i x.count c.in-Some.ensures.0 x.few x.sized x.low x.apart c.rotate_left.ensures.len c.rotate_left.ensures.by_index in
    r.less ∙ ap (λ l. without l (used x)) c.in-Some.ensures.1
