use Rattle.std.proofs.Common.{[], sym, ◌∙◌}
use Rattle.hold.specs.Self.{Brings}
use Rattle.simulation.specs.Carry.{Made1}
use Rattle.simulation.specs.Shows.{who_of}
use Rattle.simulation.proofs.Moving.{brings_answer, brings_due, brings_err, brings_half, brings_none, brings_other, brings_quiet, known_is, known-not}
use Rattle.simulation.proofs.RoundsMade.{goes_does, on_err}
use Rattle.simulation.proofs.pair.Pair.bring.Goals as goal
use Rattle.simulation.proofs.pair.Pair.bring.Goals.{else-is_yes-via-then-is_yes+else-v, else-is_yes-via-else-is_yes}

pub returns-in_err-p-clause-made : goal.returns-in_err-p-clause-made
returns-in_err-p-clause-made c = on_err (Made1 c.args.self.now c.hear_latest.new.self (Brings (who_of c.args.side) 0 0)) _ c.from_residual.ensures.0 (λ _. goes_does _ _ (λ _. []) c.in_err-p.ensures)

pub returns-in_default-clause-made : goal.returns-in_default-clause-made
returns-in_default-clause-made c = brings_none c.args.self.now c.hear_latest.new.self (who_of c.args.side) c.in_ok-p.p c.in_ok-p.ensures c.in_default.ensures

pub returns-then-ne-clause-made : goal.returns-then-ne-clause-made
returns-then-ne-clause-made c = brings_other c.args.self.now c.hear_latest.new.self (who_of c.args.side) c.in_ok-p.p c.in_ok-p.ensures c.in-Some.v c.in-Some.ensures (λ e. known-not c.partner.result c.in_ok-p.p.head.from c.if-ne.ensures (c.partner.ensures ∙ e))

pub returns-in_ok-answer-clause-made : goal.returns-in_ok-answer-clause-made
returns-in_ok-answer-clause-made c = brings_answer c.args.self.now c.hear_latest.new.self (who_of c.args.side) c.in_ok-p.p c.in_ok-p.ensures c.in-Some.v c.in-Some.ensures (sym c.partner.ensures ∙ known_is c.partner.result c.in_ok-p.p.head.from c.if-ne.ensures) c.answer.new.self (sym c.if-wants_answer.ensures) c.in_ok-answer.ensures

pub returns-in_err-answer-clause-made : goal.returns-in_err-answer-clause-made
returns-in_err-answer-clause-made c = on_err (Made1 c.args.self.now c.answer.new.self (Brings (who_of c.args.side) 0 0)) _ c.from_residual-in_err-answer.ensures.0 (λ _. brings_err c.args.self.now c.hear_latest.new.self (who_of c.args.side) c.in_ok-p.p c.in_ok-p.ensures c.answer.new.self c.in_err-answer.ensures)

pub returns-in_ok-due-clause-made : goal.returns-in_ok-due-clause-made
returns-in_ok-due-clause-made c = brings_due c.args.self.now c.hear_latest.new.self (who_of c.args.side) c.in_ok-p.p c.in_ok-p.ensures c.in-Some.v c.in-Some.ensures (sym c.partner.ensures ∙ known_is c.partner.result c.in_ok-p.p.head.from c.if-ne.ensures) c.due.new.self (sym c.if-wants_answer.ensures) (sym c.if-is_yes.ensures) c.if-v.true c.in_ok-due.ensures

pub returns-in_err-due-clause-made : goal.returns-in_err-due-clause-made
returns-in_err-due-clause-made c = on_err (Made1 c.args.self.now c.due.new.self (Brings (who_of c.args.side) 0 0)) _ c.from_residual-in_err-due.ensures.0 (λ _. brings_err c.args.self.now c.hear_latest.new.self (who_of c.args.side) c.in_ok-p.p c.in_ok-p.ensures c.due.new.self c.in_err-due.ensures)

pub returns-else-is_yes-clause-made : goal.returns-else-is_yes-clause-made
returns-else-is_yes-clause-made c = elim c.else-is_yes.branch [
  | else-is_yes-via-then-is_yes+else-v w ↦ brings_half c.args.self.now c.hear_latest.new.self (who_of c.args.side) c.in_ok-p.p c.in_ok-p.ensures c.in-Some.v c.in-Some.ensures (sym c.partner.ensures ∙ known_is c.partner.result c.in_ok-p.p.head.from c.if-ne.ensures) (sym c.if-wants_answer.ensures) w.if-v.false
  | else-is_yes-via-else-is_yes w ↦ brings_quiet c.args.self.now c.hear_latest.new.self (who_of c.args.side) c.in_ok-p.p c.in_ok-p.ensures c.in-Some.v c.in-Some.ensures (sym c.partner.ensures ∙ known_is c.partner.result c.in_ok-p.p.head.from c.if-ne.ensures) (sym c.if-wants_answer.ensures) (sym w.if-is_yes.ensures)
]
