use Rattle.hold.specs.Drive.{round_moves}
use Rattle.hold.specs.Self.{Brings, Clock, Take}
use Rattle.packet.specs.Sizes.{capacity}
use Rattle.simulation.specs.Carry.{MadeAll}
use Rattle.simulation.specs.Shows.{who_of}
use Rattle.simulation.proofs.RoundsMade.{goes_made, goes_on, on_err, round-made, who_other}
use Rattle.simulation.proofs.pair.Pair.round.Goals as goal

pub returns-in_err-said-clause-made : goal.returns-in_err-said-clause-made
returns-in_err-said-clause-made c = on_err (MadeAll c.args.self.now c.clock.new.self (round_moves (who_of c.args.side) c.args.tag c.args.peer capacity)) _ c.from_residual-in_err-said.ensures.0 (λ _. goes_on c.args.self.now c.take_some.new.self c.clock.new.self (goes_made _ _ (Take (who_of c.args.side) c.args.tag capacity) _ c.in_ok-taken.ensures.made) c.in_err-said.ensures.made)

pub returns-in_err-brought-clause-made : goal.returns-in_err-brought-clause-made
returns-in_err-brought-clause-made c = on_err (MadeAll c.args.self.now c.bring.new.self (round_moves (who_of c.args.side) c.args.tag c.args.peer capacity)) _ c.from_residual-in_err-brought.ensures.0
    (λ _. goes_on c.args.self.now c.take_some.new.self c.bring.new.self (goes_made _ _ (Take (who_of c.args.side) c.args.tag capacity) _ c.in_ok-taken.ensures.made) (goes_on c.take_some.new.self c.clock.new.self c.bring.new.self (goes_made _ _ (Clock (who_of c.other.result) c.args.peer) _ c.in_ok-said.ensures.made) c.in_err-brought.ensures.made))

pub returns-in_err-bring-clause-made : goal.returns-in_err-bring-clause-made
returns-in_err-bring-clause-made c = on_err (MadeAll c.args.self.now c.bring-2.new.self (round_moves (who_of c.args.side) c.args.tag c.args.peer capacity)) _ c.from_residual-in_err-bring.ensures.0
    (λ _. goes_on c.args.self.now c.take_some.new.self c.bring-2.new.self (goes_made _ _ (Take (who_of c.args.side) c.args.tag capacity) _ c.in_ok-taken.ensures.made) (goes_on c.take_some.new.self c.clock.new.self c.bring-2.new.self (goes_made _ _ (Clock (who_of c.other.result) c.args.peer) _ c.in_ok-said.ensures.made) (goes_on c.clock.new.self c.bring.new.self c.bring-2.new.self (goes_made _ _ (Brings (who_of c.args.side) 0 0) _ c.in_ok-brought.ensures.made) c.in_err-bring.ensures.made)))

pub returns-clause-made : goal.returns-clause-made
returns-clause-made c = round-made c.args.self.now c.take_some.new.self c.clock.new.self c.bring.new.self c.bring-2.new.self (who_of c.args.side) (who_of c.other.result) (who_of c.other-2.result) c.args.tag c.args.peer capacity c.in_ok-taken.taken c.in_ok-said.said c.in_ok-brought.brought c.in_ok-bring.field-0
    (who_other c.args.side _ c.other.ensures) (who_other c.args.side _ c.other-2.ensures) c.in_ok-taken.ensures.made c.in_ok-said.ensures.made c.in_ok-brought.ensures.made c.in_ok-bring.ensures.made
