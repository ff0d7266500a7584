use Rattle.std.proofs.Common.{sym, ap, ◌∙◌}
use Rattle.std.specs.Option.{option_copied}
use Rattle.simulation.specs.Carry.{HeardLatest}
use Rattle.simulation.specs.Shows.{who_of}
use Rattle.simulation.proofs.Moving.{came_last}
use Rattle.simulation.proofs.RoundsMade.{on_err}
use Rattle.simulation.proofs.pair.Pair.hear_latest.Goals as goal

pub returns : goal.returns
returns c = came_last c.args.self.now _ c.args.side c.sent_to-came.result.now c.in_ok-p.field-0.now _ c.sent_to-came.ensures (sym c.last.ensures.value ∙ ap option_copied c.in_ok-p.ensures.ok_part) c.in_ok-deliver.ensures.place c.in_ok-deliver.ensures.did

pub returns-in_err-deliver : goal.returns-in_err-deliver
returns-in_err-deliver c = on_err (HeardLatest c.args.self.now c.deliver.new.self (who_of c.args.side)) _ c.from_residual-in_err-deliver.ensures.0 (λ _. c.in_err-deliver.ensures.did)
