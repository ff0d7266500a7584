use Rattle.std.proofs.Common.{◌≡◌, ◌+◌, ◌*◌, ◌-◌, get_or, sym, ◌∙◌, arith}
use Rattle.text.proofs.Steps.{digits_more, digits_stop, digits_past, digits_all}
use Rattle.text.proofs.front.digits.Goals as goal

pub returns-then-not-is_ascii_digit-clause-value : goal.returns-then-not-is_ascii_digit-clause-value
returns-then-not-is_ascii_digit-clause-value c = digits_stop _ _ _ _ c.loop-i-test.true (sym c.if-not-is_ascii_digit.ensures.value) ∙ c.loop-i.invariant.1

pub returns-then-next-from-clause-value : goal.returns-then-next-from-clause-value
returns-then-next-from-clause-value c = digits_past _ _ _ _ c.loop-i-test.true (sym c.if-not-is_ascii_digit.ensures.value) (omega arith) ∙ c.loop-i.invariant.1

pub loop-i-preserved : goal.loop-i-preserved
loop-i-preserved c =
    let n : 10 * c.from.result + c.from-in-loop-i.result ≡ 10 * c.loop-i.n + (get_or c.args.line.now c.loop-i.i 0 - 48) = omega arith in
    (omega arith, rw n (sym (digits_more _ _ _ _ c.loop-i-test.true (sym c.if-not-is_ascii_digit.ensures.value) (omega arith)) ∙ c.loop-i.invariant.1))

pub returns-clause-value : goal.returns-clause-value
returns-clause-value c = digits_all _ _ _ _ c.loop-i-test.false ∙ c.loop-i.invariant.1
