use Rattle.std.proofs.Common.{◌≡◌, vec_items, ap, ◌∙◌, rules}
use Rattle.script.specs.Parse.{parse}
use Rattle.script.specs.Show.{shown}
use Rattle.script.proofs.Rounds.{read_back}
use Rattle.script.proofs.print.print.Goals as goal

pub returns : goal.returns
returns c =
    let e : vec_items c.push_line.new.out ≡ shown c.args.line = search rules in
    record { bytes = e; back = λ h. ap parse e ∙ read_back c.args.line h }
