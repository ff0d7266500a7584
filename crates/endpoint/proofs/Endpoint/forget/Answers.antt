use Rattle.std.proofs.Common.{[], refl, ap, ◌∙◌, ⊎_elim, arith}
use Rattle.hold.specs.Conn.{Gone, in_phase}
use Rattle.hold.specs.World.{changed, end}
use Rattle.lanes.specs.Used.{used}
use Rattle.table.specs.Grows.{less}
use Rattle.endpoint.specs.Stands.{cfg, lent}
use Rattle.endpoint.proofs.Memory.{beside, set_at}
use Rattle.endpoint.proofs.Ends.{after-put, changed_none, ended}
use Rattle.endpoint.proofs.Leaving.{either, let_go, there}
use Rattle.endpoint.proofs.Endpoint.forget.Goals as goal

pub returns : goal.returns
returns c =
    let x = c.args.self.now in
    let l = c.in_ok-lane.lane in
    let put = set_at _ _ _ l _ c.remove.ensures.conns (omega arith) in
    let b = beside l x _ refl refl refl in (
      there x c.args.tag l c.in_ok-lane.ensures.0,
      c.remove.ensures.lanes ∙ ap (λ o. less o (used x.table.lanes)) c.in_ok-lane.ensures.0,
      record {
        settings = refl;
        world = λ o w s. after-put _ [] o (changed c.args.tag (in_phase Gone) (end o w)) [] w (⊎_elim
            (λ h. ended x _ l b refl c.args.tag c.gone.result put c.remove.ensures.lanes h (c.gone.ensures.acts (cfg x) (lent x l)) (end o w) s)
            (λ h. let_go x c.args.tag l h.0 h.1 _ b refl c.gone.result (c.gone.ensures.left (cfg x) (lent x l)) put c.remove.ensures.lanes _ (changed_none x (end o w) s c.args.tag (in_phase Gone) h.0))
            (either x c.args.tag l c.in_ok-lane.ensures.0));
      },
    )
