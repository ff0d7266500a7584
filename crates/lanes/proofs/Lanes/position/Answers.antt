use Rattle.std.proofs.Common.{◌≡◌, rules}
use Rattle.std.proofs.lemmas.Iterator.{IsFirst-from_position, YieldsList-from_slice}
use borrow.Author.Tests.{tests}
use Rattle.lanes.proofs.Orders.{placed}
use Rattle.lanes.proofs.Lanes.position.Goals as goal

pub returns : goal.returns
returns c =
    let x = c.args.self.now in
    let h = IsFirst-from_position _ _ c.position.result (λ l. l ≡ c.args.lane) (λ l. l ≡ c.args.lane → ⊥) c.position.ensures.ran (YieldsList-from_slice c.in_use.result.now cc) (λ l q k. search (rules, tests)) (λ l q k. search (rules, tests)) in
    placed x c.args.lane c.in_use.result.now c.position.result c.in_use.ensures.order h
