use Rattle.std.proofs.Common.{◌≡◌, ◌+◌, ◌-◌, set, ap, ◌∙◌, rules, arith, tests}
use Rattle.std.proofs.lemmas.Iterator.{YieldsList-from_slice}
use Rattle.std.proofs.lemmas.Iterator.Search.{position_from_yields_List}
use Rattle.timer.proofs.Rows.{ends_after, first_of_sixteen, pushed_lowest, pushed_above}
use Rattle.timer.proofs.flight.Flight.pushed.Goals as goal

pub returns-then-above-gt0 : goal.returns-then-above-gt0
returns-then-above-gt0 c =
    let p = position_from_yields_List (ends_after c.args.row) _ _ c.position.result c.position.ensures.ran (YieldsList-from_slice c.args.self.rows c.iter.ensures.rest) (λ x b q k. search (rules, tests)) in
    let e = first_of_sixteen c.args.row c.args.self.rows c.position.result (search rules) p in
    let j = pushed_above c.args.row c.args.self.rows (c.unwrap_or-above.result - 1) (omega (arith, e)) in let z : 0 + (c.unwrap_or-above.result - 1) ≡ c.unwrap_or-above.result - 1 = omega arith in
    ap (λ rows. set rows (c.unwrap_or-above.result - 1) c.args.row) c.copy_within.ensures.after ∙ rw z j

pub returns-else-above-gt0 : goal.returns-else-above-gt0
returns-else-above-gt0 c =
    let p = position_from_yields_List (ends_after c.args.row) _ _ c.position.result c.position.ensures.ran (YieldsList-from_slice c.args.self.rows c.iter.ensures.rest) (λ x b q k. search (rules, tests)) in
    let e = first_of_sixteen c.args.row c.args.self.rows c.position.result (search rules) p in
    pushed_lowest c.args.row c.args.self.rows (omega (arith, e))
