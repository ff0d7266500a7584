use Rattle.std.proofs.Common.{[], ◌∷◌, sym, refl, arith}
use Rattle.hold.specs.Self.{Clock}
use Rattle.hold.specs.World.{Due, by_tag, end, world}
use Rattle.simulation.specs.Carry.{Made1}
use Rattle.simulation.specs.Shows.{who_of}
use Rattle.simulation.proofs.Moving.{clock_none, clock_some, makes_as}
use Rattle.simulation.proofs.RoundsMade.{goes_does, on_err}
use Rattle.simulation.proofs.pair.Pair.clock.Goals as goal

pub returns-then-not-speaks : goal.returns-then-not-speaks
returns-then-not-speaks c = record { few = omega arith; made = λ cfg es s. makes_as cfg _ es [] _ 0 (clock_none (who_of c.args.side) (by_tag c.args.tag (end (who_of c.args.side) (world cfg es)).conns) (sym (c.if-not-speaks.ensures cfg (world cfg es) s))) refl s }

pub returns : goal.returns
returns c = record { few = omega arith; made = λ cfg es s. makes_as cfg _ es (Due (who_of c.args.side) c.args.tag ∷ []) _ 1 (clock_some (who_of c.args.side) c.args.tag (end (who_of c.args.side) (world cfg es)).conns (sym (c.if-not-speaks.ensures cfg (world cfg es) s))) refl (c.in_ok-due.ensures cfg es s) }

pub returns-in_err-due-clause-made : goal.returns-in_err-due-clause-made
returns-in_err-due-clause-made c = on_err (Made1 c.args.self.now c.due.new.self (Clock (who_of c.args.side) c.args.tag)) _ c.from_residual.ensures.0 (λ _. goes_does _ _ (λ _. []) c.in_err-due.ensures)
