use Rattle.std.proofs.Common.{◌≡◌, ℕ, ◌+◌, ◌-◌, ◌*◌, min, length, set, subst, arith, rules}
use Rattle.lent.specs.Bits.{Marked}
use Rattle.lent.proofs.Marks.{marked_more_word}
use Rattle.lent.proofs.bits.mark.Goals as goal

pub loop-word-preserved : goal.loop-word-preserved
loop-word-preserved c =
    let size : length c.loop-word.bits ≡ 1024 = search rules in
    subst (λ (at : ℕ). Marked c.args.place (min c.args.n (64 * (c.loop-word.word + 1) - c.args.place)) c.args.value c.args.bits.now (set c.loop-word.bits at c.marked.result)) (omega arith)
    (marked_more_word c.args.place c.args.n c.loop-word.word c.saturating_sub-from.result c.min-to.result c.marked.result c.args.value c.args.bits.now c.loop-word.bits c.requires.0 (omega arith) (omega arith) size c.saturating_sub-from.ensures c.min-to.ensures c.marked.ensures c.loop-word.invariant)
