use Rattle.std.proofs.Common.{vec_items}
use Rattle.hold.specs.World.{Sends}
use Rattle.simulation.proofs.OneSide.{half_acts, put_drawn}
use Rattle.simulation.proofs.half.Half.answer.Goals as goal

pub returns : goal.returns
returns c came ts = half_acts c.args.self.now _ came (vec_items c.reserve.new.self) _ ts (λ o w. Sends o c.args.tag _ _) (λ o w. put_drawn o _ _ _ w) c.reserve.ensures.items (c.post.ensures c.in_ok-reserve.ensures.ok) c.answer.ensures
