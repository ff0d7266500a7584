use Rattle.std.proofs.Common.{sym, ◌∙◌, rules}
use Rattle.std.proofs.lemmas.Iterator.{YieldsList-from_map, YieldsList-from_slice}
use Rattle.std.proofs.lemmas.Iterator.Adapters.{option_map_id}
use Rattle.std.proofs.lemmas.Iterator.Consumers.{YieldsList-at}
use Rattle.std.proofs.lemmas.Iterator.Search.{find_from_yields_List}
use borrow.Author.Tests.{tests}
use Rattle.lanes.specs.Used.{used}
use Rattle.table.specs.Search.{at, is_gone}
use Rattle.table.proofs.Searches.{find-eldest}
use Rattle.table.proofs.Table.oldest_gone.Goals as goal

pub returns : goal.returns
returns c =
    let x = c.args.self.now in
    let h = find_from_yields_List (λ l. is_gone (at x l)) _ _ c.find.result c.find.ensures.ran (YieldsList-from_map _ (λ l. l) (YieldsList-at c.map.ensures.source (YieldsList-from_slice c.in_use.result.now cc)) c.map.ensures.closure (λ x r q k. search rules)) (λ x b q k. search (rules, tests)) in
    sym (option_map_id c.find.result) ∙ h ∙ find-eldest (λ l. is_gone (at x l)) c.in_use.result.now (used x.lanes) c.in_use.ensures.order
