use Rattle.std.proofs.Common.{◌≡◌, ◌-◌, ◌^◌, cond, sym, ap, ◌∙◌, arith}
use Rattle.lent.proofs.Words.{run_all, run_end_gap}
use Rattle.lent.proofs.bits.run_end.Goals as goal
use Rattle.lent.proofs.bits.run_end.Goals.{then-value, else-value}

turned : (c : goal.After-min) → c.if-value.others ≡ cond c.args.value (2 ^ 64 - 1 - c.args.word) c.args.word
turned c = elim c.if-value.branch [ then-value w ↦ w.others-is ∙ ap (λ b. cond b (2 ^ 64 - 1 - c.args.word) c.args.word) (sym w.if-value.true) | else-value w ↦ w.others-is ∙ ap (λ b. cond b (2 ^ 64 - 1 - c.args.word) c.args.word) (sym w.if-value.false) ]

pub returns-clause-all : goal.returns-clause-all
returns-clause-all c = run_all c.args.value c.args.word c.if-value.others c.args.from c.min.result (omega arith) (turned c) (omega arith)

pub returns-clause-gap : goal.returns-clause-gap
returns-clause-gap c = run_end_gap c.args.value c.args.word c.if-value.others c.args.from c.min.result (omega arith) (turned c) (omega arith)
