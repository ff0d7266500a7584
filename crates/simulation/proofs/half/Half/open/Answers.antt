use Rattle.std.proofs.Common.{vec_items, arith}
use Rattle.endpoint.specs.Stands as E
use Rattle.hold.specs.World.{Opens}
use Rattle.simulation.proofs.Drawn.{new_opens}
use Rattle.simulation.proofs.OneSide.{drew, half_draws, may_draw, stepped}
use Rattle.simulation.proofs.half.Half.open.Goals as goal

pub returns : goal.returns
returns c came =
    let cfg = E.cfg c.args.self.now.party.end in
    half_draws c.args.self.now _ came (vec_items c.reserve-2.new.self) _ _ _ c.reserve-2.ensures.items (c.post.ensures c.in_ok-reserve-2.ensures.ok) _ _ c.args.tag c.in_ok-p.ensures
    (may_draw c.args.tag (vec_items c.args.drawn.now) _ c.deref.ensures.value c.if-not-is_fresh.ensures)
    (drew _ _ _ c.args.tag _ c.reserve.ensures.items (c.push.ensures.succeeds (omega (arith, c.in_ok-reserve.ensures.ok))) c.push.ensures.items)
    (λ o es _. stepped cfg (Opens o c.args.tag) es) (λ o w. new_opens c.args.tag cfg o w)
