use Rattle.std.proofs.Common.{◌-◌, arith}
use Rattle.simulation.specs.Carry.{Driven}
use Rattle.simulation.specs.Shows.{who_of}
use Rattle.simulation.proofs.RoundsMade.{goes_on, on_err, seen_other, up_all, up_done, up_first, up_goes, up_more, who_other}
use Rattle.simulation.proofs.pair.Pair.rounds.Goals as goal

pub loop-init : goal.loop-init
loop-init c = up_first c.args.self.now c.args.self.now c.args.most (who_of c.args.side) c.args.tag c.args.peer (c.args.most - 0) (omega arith)

pub loop-preserved : goal.loop-preserved
loop-preserved c = up_more c.args.self.now c.loop.self c.args.most (who_of c.args.side) c.args.tag c.args.peer c.round.new.self (c.args.most - c.loop.counter) _ c.loop.moves c.in_ok-round.field-0 _
    (omega (arith, c.loop-test.true)) c.loop.invariant (seen_other c.loop.self _ (who_of c.args.side) (who_of c.other.result) c.args.peer (who_other c.args.side c.other.result c.other.ensures) c.if-not-speaks.ensures) c.in_ok-round.ensures.made (omega (arith, c.saturating_add-moves.ensures))

pub returns-then-not-speaks : goal.returns-then-not-speaks
returns-then-not-speaks c = up_done c.args.self.now c.loop.self c.args.most (who_of c.args.side) c.args.tag c.args.peer (c.args.most - c.loop.counter) c.loop.moves c.loop.invariant (seen_other c.loop.self _ (who_of c.args.side) (who_of c.other.result) c.args.peer (who_other c.args.side c.other.result c.other.ensures) c.if-not-speaks.ensures)

pub returns-in_err-round : goal.returns-in_err-round
returns-in_err-round c = on_err (Driven c.args.self.now c.round.new.self c.args.most (who_of c.args.side) c.args.tag c.args.peer) _ c.from_residual.ensures.0 (λ _. goes_on c.args.self.now c.loop.self c.round.new.self (up_goes c.args.self.now c.loop.self c.args.most (who_of c.args.side) c.args.tag c.args.peer (c.args.most - c.loop.counter) c.loop.moves c.loop.invariant) c.in_err-round.ensures.made)

pub returns-after-loop : goal.returns-after-loop
returns-after-loop c = up_all c.args.self.now c.loop.self c.args.most (who_of c.args.side) c.args.tag c.args.peer (c.args.most - c.loop.counter) c.loop.moves (omega (arith, c.loop-test.false)) c.loop.invariant
