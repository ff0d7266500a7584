use Rattle.std.proofs.Common.{sym, ◌∙◌}
use Rattle.text.proofs.Steps.{strip_all, strip_some}
use Rattle.text.proofs.front.strip.Goals as goal

pub returns-then-same-word : goal.returns-then-same-word
returns-then-same-word c = let e = c.same_len-same.ensures.value in rw e (strip_all _ _ (sym e ∙ c.if-same-word.true))

pub returns-else-same-word : goal.returns-else-same-word
returns-else-same-word c = let e = c.same_len-same.ensures.value in rw e (strip_some _ _ (λ k. c.if-same-word.false (e ∙ k)))
