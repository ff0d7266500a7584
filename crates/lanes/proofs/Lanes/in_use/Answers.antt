use Rattle.std.proofs.Common.{◌<◌, arith}
use Rattle.std.proofs.lemmas.Grind.{get_or_default_zero}
use Rattle.std.proofs.lemmas.List.Elements.{All-take}
use Rattle.lanes.proofs.Orders.{reverse-take}
use Rattle.lanes.proofs.Lanes.in_use.Goals as goal

pub returns-clause-order : goal.returns-clause-order
returns-clause-order c = let x = c.args.self.now in reverse-take x.count x.order (omega (arith, x.few, x.sized))

pub returns-clause-low : goal.returns-clause-low
returns-clause-low c = let x = c.args.self.now in All-take (λ l. l < 16) x.count x.order (λ k d h. omega (arith, get_or_default_zero x.order k d h, x.low k))
