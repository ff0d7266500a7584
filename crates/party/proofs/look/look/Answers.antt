use Rattle.std.proofs.Common.{◌∙◌}
use Rattle.party.proofs.Views.{look_none, look_some}
use Rattle.party.proofs.look.look.Goals as goal

pub returns-in_err-lane : goal.returns-in_err-lane
returns-in_err-lane c cfg mem cs h = c.from_residual.ensures ∙ look_none cfg mem c.args.table.now cs c.args.tag h c.in_err-lane.ensures.is

pub returns : goal.returns
returns c cfg mem cs h = look_some cfg mem c.args.table.now cs c.args.tag c.in_ok-lane.lane c.view.result h c.in_ok-lane.ensures.is (λ d s. c.view.ensures cfg (mem c.in_ok-lane.lane) d s)
