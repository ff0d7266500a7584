use Rattle.std.proofs.Common.{◌≡◌, ℕ, [], ◌++◌, List, length, sym, refl, ap, ◌∙◌, arith}
use Rattle.std.proofs.lemmas.Bool.{eqb-true}
use Rattle.std.proofs.lemmas.List.{append-nil, drop_all}
use Rattle.lent.specs.Ring.{written}
use Rattle.lent.proofs.Writes.{by_one, by_two, two_parts}
use Rattle.lent.proofs.ring.put.Goals as goal

pub returns-then-not-is_empty : goal.returns-then-not-is_empty
returns-then-not-is_empty c =
    let split = c.split_at.ensures in
    by_two c.args.place c.slot-at.result _ _ c.split_at.result.0.now c.split_at.result.1.now c.args.ring.now c.copy_from_slice.new.self c.copy_from_slice-then-not-is_empty.new.self
    c.slot-at.ensures.at c.copy_from_slice.ensures.after (omega arith) (omega (arith, split.front_len)) (λ some. omega (arith, split.front_len, split.back_len)) c.copy_from_slice-then-not-is_empty.ensures.after refl (omega (arith, split.back_len)) c.told-ring ∙
    ap (λ (t : List ℕ). written c.args.place t c.args.ring.now) (two_parts c.args.text.now c.split_at.result.0.now c.split_at.result.1.now _ split.front split.back)

pub returns-else-not-is_empty : goal.returns-else-not-is_empty
returns-else-not-is_empty c =
    let split = c.split_at.ensures in
    let front = c.split_at.result.0.now in
    let none : length c.split_at.result.1.now ≡ 0 = eqb-true (length c.split_at.result.1.now) 0 (sym c.is_empty.ensures ∙ c.if-not-is_empty.false) in
    let nothing : c.split_at.result.1.now ≡ [] = split.back ∙ drop_all _ c.args.text.now (omega (arith, none, split.back_len)) in
    by_one c.args.place c.slot-at.result _ front c.args.ring.now c.copy_from_slice.new.self (λ _. sym c.slot-at.ensures.at) c.copy_from_slice.ensures.after (omega arith) (omega (arith, split.front_len)) c.told-ring ∙
    ap (λ (t : List ℕ). written c.args.place t c.args.ring.now) (sym (append-nil front) ∙ ap (λ (t : List ℕ). front ++ t) (sym nothing) ∙ two_parts c.args.text.now front c.split_at.result.1.now _ split.front split.back)
