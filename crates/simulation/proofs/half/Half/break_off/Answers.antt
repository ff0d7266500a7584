use Rattle.std.proofs.Common.{vec_items}
use Rattle.hold.specs.World.{Breaks}
use Rattle.simulation.proofs.OneSide.{half_acts, put_drawn}
use Rattle.simulation.proofs.half.Half.break_off.Goals as goal

pub returns : goal.returns
returns c came ts = half_acts c.args.self.now _ came (vec_items c.reserve.new.self) _ ts (λ o _. Breaks o c.args.tag) (λ o w. put_drawn o _ _ _ w) c.reserve.ensures.items (c.post.ensures c.in_ok-reserve.ensures.ok) c.in_ok-p.ensures
