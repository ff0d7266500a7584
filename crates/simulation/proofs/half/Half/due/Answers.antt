use Rattle.std.proofs.Common.{vec_items}
use Rattle.hold.specs.World.{Due}
use Rattle.simulation.proofs.OneSide.{half_acts, put_drawn}
use Rattle.simulation.proofs.half.Half.due.Goals as goal

pub returns : goal.returns
returns c came ts = half_acts c.args.self.now _ came (vec_items c.reserve.new.self) _ ts (λ o _. Due o c.args.tag) (λ o w. put_drawn o _ _ _ w) c.reserve.ensures.items (c.post.ensures c.in_ok-reserve.ensures.ok) c.due.ensures
