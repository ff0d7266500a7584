use Rattle.std.proofs.Common.{◌≡◌, ℕ, ◌/◌, ◌%◌, ◌<◌, sym, ap, ◌∙◌, arith}
use lib.Bits.{bit_xor, bit_and, and_mask}
use Rattle.crc32c.specs.Crc.{eight_steps}
use Rattle.crc32c.proofs.Linear.{step_is}
use Rattle.crc32c.proofs.step.Goals as goal

pub returns : goal.returns
returns c =
    let h : c.args.byte < 256 = omega arith in
    let m : bit_and (bit_xor c.args.start c.args.byte) 255 ≡ bit_xor c.args.start c.args.byte % 256 =
    and_mask (bit_xor c.args.start c.args.byte) 8 in
    sym (step_is c.args.start c.args.byte h
    ∙ ap (λ (y : ℕ). bit_xor (c.args.start / 256) y) (sym (c.entry.ensures ∙ ap eight_steps m)))
