use Rattle.std.proofs.Common.{◌≡◌, ◌+◌, ◌-◌, length, ◌∙◌, arith, rules}
use Rattle.packet.specs.Sizes.{capacity}
use Rattle.lent.proofs.Fillings.{part_long, part_at, filled_gap, filled_skip}
use Rattle.lent.proofs.inbox.Inbox.fill_gaps.Goals as goal

pub loop-done-preserved : goal.loop-done-preserved
loop-done-preserved c =
    let told : length c.args.self.now.ring ≡ capacity = search rules in
    let size : length c.loop-done.self.ring ≡ capacity = c.loop-done.invariant.1.size ∙ told in
    let all : c.loop-done.done + c.run-gap.result - c.loop-done.done ≡ c.run-gap.result = omega arith in (
      omega (arith, c.run-gap.ensures.within, c.run-done.ensures.within),
      filled_skip c.args.place (c.loop-done.done + c.run-gap.result) c.run-done.result c.args.text.now c.args.self.now.ring c.args.self.now.bits c.put.new.ring c.mark.new.bits (omega (arith, c.run-gap.ensures.within, c.run-done.ensures.within)) c.run-done.ensures.all
          (filled_gap c.args.place c.loop-done.done c.run-gap.result c.args.text.now _ c.args.self.now.ring c.args.self.now.bits c.loop-done.self.ring c.loop-done.self.bits c.put.new.ring c.mark.new.bits (omega (arith, c.run-gap.ensures.within)) size
          (part_long c.loop-done.done c.run-gap.result _ c.args.text.now all (omega (arith, c.run-gap.ensures.within))) (part_at c.loop-done.done c.run-gap.result _ c.args.text.now all)
          c.run-gap.ensures.all c.put.ensures c.mark.ensures c.loop-done.invariant.1),
    )
