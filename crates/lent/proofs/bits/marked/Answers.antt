use Rattle.std.proofs.Common.{cond, ◌&&◌, ltb, leb, sym, ap, ◌∙◌}
use Rattle.lent.specs.Bits.{bit}
use Rattle.lent.proofs.Words.{marked_up, marked_down_to}
use Rattle.lent.proofs.bits.marked.Goals as goal

pub returns-then-value : goal.returns-then-value
returns-then-value c j l =
    marked_up c.args.word c.args.from c.args.to j c.requires.0 c.requires.1 c.requires.2 l ∙ ap (λ v. cond (leb c.args.from j && ltb j c.args.to) v (bit c.args.word j)) (sym c.if-value.true)

pub returns-else-value : goal.returns-else-value
returns-else-value c j l =
    marked_down_to c.args.word c.args.from c.args.to j c.requires.0 c.requires.1 c.requires.2 l ∙ ap (λ v. cond (leb c.args.from j && ltb j c.args.to) v (bit c.args.word j)) (sym c.if-value.false)
