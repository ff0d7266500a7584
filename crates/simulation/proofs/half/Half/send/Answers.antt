use Rattle.std.proofs.Common.{vec_items}
use Rattle.endpoint.specs.Stands as E
use Rattle.hold.specs.World.{Sends}
use Rattle.simulation.proofs.OneSide.{drawn_if, half_moves, put_drawn, stepped_if}
use Rattle.simulation.proofs.half.Half.send.Goals as goal

pub returns : goal.returns
returns c came ts =
    half_moves c.args.self.now _ came (vec_items c.reserve.new.self) _ _ _ c.reserve.ensures.items (c.post.ensures c.in_ok-reserve.ensures.ok) ts c.send.ensures
    (λ o es. stepped_if (E.cfg c.args.self.now.party.end) _ (Sends o c.args.tag c.args.span.place c.args.span.most) es) (λ o w. drawn_if _ _ w (put_drawn o _ _ _ w))
