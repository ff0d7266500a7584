use Rattle.std.proofs.Common.{◌≡◌, rules}
use Rattle.script.specs.Parse.{parse}
use Rattle.script.specs.Lines.{line_read}
use Rattle.script.proofs.Reading.{printed_lem}
use Rattle.script.proofs.read.read.Goals as goal

pub returns-clause-printed : goal.returns-clause-printed
returns-clause-printed c =
    let e : line_read c.map_err.result ≡ parse c.args.line.now = search rules in
    printed_lem _ _ e
