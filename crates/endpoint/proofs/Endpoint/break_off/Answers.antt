use Rattle.std.proofs.Common.{rules, sym, refl, ap, ◌∙◌}
use Rattle.hold.specs.World.{by_tag, bye_if, end}
use Rattle.endpoint.specs.Calls.{break_number}
use Rattle.endpoint.specs.Stands.{cfg, lent}
use Rattle.endpoint.proofs.Memory.{beside}
use Rattle.endpoint.proofs.Ends.{after_out, ended, finding, numbered_none, numbered_some}
use Rattle.endpoint.proofs.Endpoint.break_off.Goals as goal

pub returns-in_err-lane : goal.returns-in_err-lane
returns-in_err-lane c = let h = numbered_none c.args.self.now c.args.tag break_number c.in_err-lane.ensures.0 in search rules

pub returns : goal.returns
returns c = let x = c.args.self.now in let h = c.in_ok-lane.ensures.0 in (
  numbered_some x c.args.tag break_number c.in_ok-lane.lane 0 h (λ d s. refl),
  record {
    settings = refl;
    world = λ o w s. let f = finding x (end o w) s c.args.tag c.in_ok-lane.lane h in
        after_out _ _ o _ (bye_if (by_tag c.args.tag (end o w).conns)) w (c.farewell-bye.ensures (cfg x) (lent x c.in_ok-lane.lane) f.c f.stand ∙ sym (ap bye_if f.there))
        (ended x _ c.in_ok-lane.lane (beside c.in_ok-lane.lane x _ refl refl refl) refl c.args.tag c.gone.result c.remove.ensures.conns c.remove.ensures.lanes h (c.gone.ensures.acts (cfg x) (lent x c.in_ok-lane.lane)) (end o w) s);
  },
)
