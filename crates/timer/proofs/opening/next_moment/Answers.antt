use Rattle.std.specs.Option.{unwrap_or, option_copied, option_map}
use Rattle.std.proofs.Common.{◌≡◌, ℕ, ◌+◌, ◌-◌, ◌^◌, min, max, cond, ltb, Option, Some, None, refl, ap, ◌∙◌, rules, arith, tests}
use Rattle.std.proofs.lemmas.Bool.Decides.{nat_tests}
use Rattle.std.proofs.lemmas.Iterator.{YieldsList-from_slice}
use Rattle.std.proofs.lemmas.Iterator.Search.{find_from_yields_List}
use Rattle.timer.specs.Opening.{again, first_after, patience, tick_after}
use Rattle.timer.proofs.opening.next_moment.Goals as goal
use denote.Ref.{Bor}

copied_now : (r : Option (Bor ℕ)) → option_copied r ≡ option_map (λ y. y.now) r
copied_now None = refl
copied_now (Some x) = refl

after_all : (start e : ℕ) → tick_after start (first_after e again (max patience (min (2 ^ 64 - 1) (e + 1)))) ≡ tick_after start (first_after e again (cond (ltb e patience) patience (e + 1)))
after_all start e = grind (arith, nat_tests)

pub returns : goal.returns
returns c =
    let f = find_from_yields_List (ltb c.saturating_sub-elapsed.result) _ _ c.find-moment.result c.find-moment.ensures.ran (YieldsList-from_slice again c.iter.ensures.rest) (λ x b q k. search (rules, tests)) in
    let u : c.unwrap_or.result ≡ first_after c.saturating_sub-elapsed.result again c.max-last.result = c.unwrap_or.ensures ∙ ap (λ o. unwrap_or o c.max-last.result) (c.copied.ensures ∙ copied_now c.find-moment.result ∙ f) in
    let l : c.max-last.result ≡ max patience (min (2 ^ 64 - 1) (c.saturating_sub-elapsed.result + 1)) = search rules in
    let e : c.saturating_sub-elapsed.result ≡ c.args.now - c.args.start = search rules in
    let t = after_all c.args.start (c.args.now - c.args.start) in cc
