use Rattle.std.proofs.Common.{eqb, rules, sym, tests, ◌∙◌}
use Rattle.std.proofs.lemmas.Iterator.{YieldsList-from_slice}
use Rattle.std.proofs.lemmas.Iterator.Search.{position_from_yields_List}
use Rattle.text.proofs.Steps.{split_here, split_all}
use Rattle.text.proofs.front.split_line.Goals as goal

pub returns-in-Some : goal.returns-in-Some
returns-in-Some c =
    let h = split_here _ _ (sym c.in-Some.is ∙ position_from_yields_List (λ b. eqb b 10) _ _ _ c.position.ensures.ran (YieldsList-from_slice c.args.script.now cc) (λ x b q k. search (rules, tests))) in
    record { line = h.0; rest = h.1 }

pub returns-in-None : goal.returns-in-None
returns-in-None c =
    let h = split_all _ (sym c.in-None.is ∙ position_from_yields_List (λ b. eqb b 10) _ _ _ c.position.ensures.ran (YieldsList-from_slice c.args.script.now cc) (λ x b q k. search (rules, tests))) in
    record { line = h.0; rest = h.1 }
