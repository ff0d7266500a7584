use Rattle.std.proofs.Common.{ap, ◌∙◌, add-one, sym, ◌∷◌, arith}
use Rattle.lanes.specs.Order.{front}
use Rattle.lanes.specs.Used.{used}
use Rattle.lanes.proofs.Orders.{front_out}
use Rattle.lanes.proofs.Lanes.add.Goals as goal

pub returns : goal.returns
returns c =
    let x = c.args.self.now in
    let e = c.in_ok-lane.ensures.lookup.3.1 0 in
    let lt = c.in_ok-lane.ensures.lookup.3.0 in (
      ap (λ n. front n x.order) (add-one x.count) ∙ ap (λ l. l ∷ used x) (sym e),
      omega (arith, x.low x.count),
      front_out _ x.count x.order (λ k h q. let s = x.apart k x.count (omega arith, omega (arith, x.sized), q ∙ e) in omega arith),
    )
