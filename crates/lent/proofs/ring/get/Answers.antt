use Rattle.std.proofs.Common.{◌≡◌, ℕ, ◌+◌, ◌-◌, take, drop, refl, ap, ◌∙◌, arith}
use Rattle.lent.specs.Ring.{held}
use Rattle.lent.proofs.Writes.{held_more, held_all}
use Rattle.lent.proofs.ring.get.Goals as goal

pub loop-done-init : goal.loop-done-init
unfolding held
loop-done-init c = (omega arith, refl)

pub loop-done-preserved : goal.loop-done-preserved
loop-done-preserved c =
    let e : c.slot-at.result + c.min-n.result - c.slot-at.result ≡ c.min-n.result = omega arith in (
      omega arith,
      held_more c.args.place c.slot-at.result c.loop-done.done c.min-n.result _ c.args.ring.now c.args.out.now c.loop-done.out c.copy_from_slice.new.self c.slot-at.ensures.at (omega arith) (omega arith) (omega arith) c.told-ring c.loop-done.invariant.1
          (c.copy_from_slice.ensures.after ∙ ap (λ (k : ℕ). take k (drop c.slot-at.result c.args.ring.now)) e),
    )

pub returns : goal.returns
returns c = held_all c.args.place c.loop-done.done c.args.ring.now c.args.out.now c.loop-done.out (omega arith) c.loop-done.invariant.1
