use Rattle.std.proofs.Common.{◌<◌, sym, ap, ◌∙◌, subst, reverse, rules}
use Rattle.std.proofs.lemmas.Iterator.{YieldsList-from_map}
use Rattle.std.proofs.lemmas.Iterator.Adapters.{YieldsList-from_rev_slice, serves_from_places, option_map_id}
use Rattle.std.proofs.lemmas.Iterator.Consumers.{YieldsList-at}
use Rattle.std.proofs.lemmas.Iterator.Search.{find_from_yields_List}
use borrow.Author.Tests.{tests}
use Rattle.table.specs.Housed.{seek}
use Rattle.table.specs.Search.{at, meets}
use Rattle.table.proofs.Searches.{find-seek, low_at}
use Rattle.table.proofs.Table.find.Goals as goal

pub find-requires-clause-callable : goal.find-requires-clause-callable
find-requires-clause-callable c =
    serves_from_places (YieldsList-from_map _ (λ l. l) (YieldsList-at c.map.ensures.source (YieldsList-from_rev_slice c.in_use.result.now cc)) c.map.ensures.closure (λ x r q k. search rules))
    (λ x q k. search rules)
    (λ x k lt e y q. let low : y.now < 16 = subst (λ l. l < 16) (sym q) (low_at c.in_use.result.now c.in_use.ensures.low x k lt e) in search rules)

pub returns-clause-is : goal.returns-clause-is
returns-clause-is c =
    let x = c.args.self.now in
    let h = find_from_yields_List (λ l. meets c.args.wanted (at x l)) _ _ c.find.result c.find.ensures.ran (YieldsList-from_map _ (λ l. l) (YieldsList-at c.map.ensures.source (YieldsList-from_rev_slice c.in_use.result.now cc)) c.map.ensures.closure (λ x r q k. search rules)) (λ x b q k. search (rules, tests)) in
    sym (option_map_id c.find.result) ∙ h ∙ find-seek (λ l. meets c.args.wanted (at x l)) (reverse c.in_use.result.now) ∙ ap (seek (λ l. meets c.args.wanted (at x l))) c.in_use.ensures.order
