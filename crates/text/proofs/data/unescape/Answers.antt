use Rattle.std.proofs.Common.{◌∙◌}
use Rattle.std.proofs.lemmas.List.{set-get_or}
use Rattle.text.proofs.Octets.{so_far_more, done_stop, done_full}
use Rattle.text.proofs.data.unescape.Goals as goal

pub loop-n-preserved : goal.loop-n-preserved
loop-n-preserved c = so_far_more _ _ _ _ _ _ _ c.loop-n-test.true c.loop-n.invariant c.in-Ok.ensures

pub returns : goal.returns
returns c =
    let d = done_full _ _ _ _ _ c.loop-n.invariant c.loop-n-test.false in
    record { count = d.count; rest = d.rest; bytes = d.bytes }

pub returns-in_default : goal.returns-in_default
returns-in_default c =
    let d = done_stop _ _ _ _ _ _ c.loop-n.invariant c.in_default.ensures in
    record { count = d.count; rest = d.rest; bytes = set-get_or _ _ _ ∙ d.bytes }
