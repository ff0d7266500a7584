use Rattle.std.proofs.Common.{◌≡◌, ◌+◌, ◌-◌, ◌*◌, ap, ◌∙◌, arith}
use Rattle.lent.specs.Bits.{up}
use Rattle.lent.proofs.Marks.{all_more_word, all_gap_word}
use Rattle.lent.proofs.bits.run.Goals as goal
use Rattle.lent.proofs.bits.run.Goals.{else-gap-test, then-gap-test+then-stop-lt64}

pub gap-preserved : goal.gap-preserved
gap-preserved c = (
  omega arith,
  λ p lo hi. all_more_word c.args.place c.gap.word 64 c.args.value c.args.bits.now (omega arith) (omega arith) (λ j a b. c.run_end-stop.ensures.all j (omega arith) (omega arith)) c.gap.invariant.1 p lo (omega arith),
)

pub returns-clause-all : goal.returns-clause-all
returns-clause-all c p lo hi = elim c.gap-test.branch [
  | else-gap-test w ↦ c.gap.invariant.1 p lo (omega arith)
  | then-gap-test+then-stop-lt64 w ↦ all_more_word c.args.place c.gap.word w.run_end-stop.result c.args.value c.args.bits.now (omega arith) (omega (arith, w.run_end-stop.ensures.within)) (λ j a b. w.run_end-stop.ensures.all j (omega arith) b) c.gap.invariant.1 p lo (omega arith)
]

pub returns-clause-gap : goal.returns-clause-gap
returns-clause-gap c l = elim c.gap-test.branch [
  | else-gap-test w ↦ absurd (omega arith)
  | then-gap-test+then-stop-lt64 w ↦
      let at : c.args.place + (c.gap-test.end - c.args.place) ≡ 64 * c.gap.word + w.run_end-stop.result = omega arith in
      ap (up c.args.bits.now) at ∙ all_gap_word c.args.place c.gap.word w.run_end-stop.result c.args.value c.args.bits.now (omega arith) (omega (arith, w.run_end-stop.ensures.within)) (omega arith) (w.run_end-stop.ensures.gap (omega arith))
]
