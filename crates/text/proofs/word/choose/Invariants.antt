use Rattle.std.proofs.Common.{◌≡◌, drop}
use Rattle.text.specs.Words.{choose, choose_from}
use Rattle.text.proofs.word.choose.Given as goal

abbrev pub invariant-loop-word : goal.invariant-loop-word
invariant-loop-word g l = choose_from g.K.Keyword.spelt (drop l.word-index l.words) l.line l.far ≡ choose g.K.Keyword.spelt l.words l.line
