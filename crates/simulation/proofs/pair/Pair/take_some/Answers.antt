use Rattle.std.proofs.Common.{[], refl}
use Rattle.hold.specs.Self.{Take}
use Rattle.packet.specs.Sizes.{capacity}
use Rattle.simulation.specs.Carry.{Made1}
use Rattle.simulation.specs.Shows.{who_of}
use Rattle.simulation.proofs.RoundsMade.{goes_does, on_err}
use Rattle.simulation.proofs.pair.Pair.take_some.Goals as goal

pub returns-in_err-take-clause-made : goal.returns-in_err-take-clause-made
returns-in_err-take-clause-made c = on_err (Made1 c.args.self.now c.take.new.self (Take (who_of c.args.side) c.args.tag capacity)) _ c.from_residual.ensures.0 (λ _. goes_does _ _ (λ _. []) c.in_err-take.ensures)

pub returns-clause-made : goal.returns-clause-made
returns-clause-made c = λ cfg es s. (c.in_ok-take.ensures cfg es s, refl)
