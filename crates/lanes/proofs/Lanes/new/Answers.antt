use Rattle.std.proofs.Common.{◌≡◌, ℕ, ◌<◌, length, get_or, ⊎_elim, arith, rules}
use Rattle.std.proofs.lemmas.Bool.{cases_lt}
use Rattle.std.proofs.lemmas.List.{get_or_past}
use borrow.Author.Tests.{tests}
use Rattle.lanes.proofs.Lanes.new.Goals as goal

pub invariant_of-result : goal.invariant_of-result
invariant_of-result c =
    let xs = c.from_fn.result in
    let long : length xs ≡ 16 = c.from_fn.ensures.items.long in
    let own : ((k : ℕ) → k < 16 → get_or xs k 0 ≡ k) = λ k lt. let h = c.from_fn.ensures.items.at k 0 lt in search (rules, tests) in
    record {
      few = omega arith;
      sized = long;
      low = λ k. ⊎_elim {0, 0, 0} (λ h. omega (arith, own k h)) (λ h. omega (arith, get_or_past xs k 0 (omega arith))) (cases_lt k 16);
      apart = λ j k (hj, hk, e). omega (arith, own j hj, own k hk);
    }
