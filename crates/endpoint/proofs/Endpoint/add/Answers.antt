use Rattle.std.proofs.Common.{ℕ, Some, Option, List, refl, sym, subst, arith}
use Rattle.table.specs.Grows.{Grown}
use Rattle.lent.specs.declared.inbox.Memory.{Memory}
use Rattle.connection.specs.Stand.{Fresh}
use Rattle.endpoint.specs.Stands.{laid}
use Rattle.endpoint.proofs.Memory.{beside_lane, fresh_in, set_at}
use Rattle.endpoint.proofs.Ends.{one_more}
use Rattle.endpoint.proofs.Endpoint.add.Goals as goal

pub returns : goal.returns
returns c =
    let x = c.args.self.now in
    let l = c.in_ok-lane.lane in
    let g : Grown x.table c.add.new.self c.args.c (Some l) = subst (λ (r : Option ℕ). Grown x.table c.add.new.self c.args.c r) c.in_ok-lane.ensures.ok_part c.add.ensures in
    (refl, λ e d s st. one_more x e s l _ (beside_lane l x _ refl refl _ (set_at _ _ _ l _ refl (omega arith))) c.args.c d g (λ z. subst (λ (ms : List Memory). Fresh (laid ms l)) (sym (set_at _ _ _ l _ refl (omega arith))) (fresh_in l g.1 x z _ c.ready.ensures)) st)
