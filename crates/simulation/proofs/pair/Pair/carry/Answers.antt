use Rattle.std.proofs.Common.{sym, ◌∙◌, subst, arith}
use Rattle.hold.specs.World.{other}
use Rattle.simulation.specs.Carry.{Seen}
use Rattle.simulation.specs.Shows.{who_of}
use Rattle.simulation.proofs.Brings.{carried, seen_there}
use Rattle.simulation.proofs.Moving.{known_is}
use Rattle.simulation.proofs.RoundsMade.{who_other}
use Rattle.simulation.proofs.pair.Pair.carry.Goals as goal

pub returns : goal.returns
returns c = carried c.args.self.now c.rounds.new.self (who_of c.args.side) c.args.tag c.in_ok-peer.peer _ c.in_ok-c.c c.in_ok-d.d (subst (Seen c.args.self.now (who_of c.args.side) c.args.tag) c.in_ok-c.ensures.ok_part c.look.ensures)
    (seen_there c.args.self.now (other (who_of c.args.side)) (who_of c.other.result) _ _ (who_other c.args.side c.other.result c.other.ensures) (subst (Seen c.args.self.now (who_of c.other.result) c.in_ok-peer.peer) c.in_ok-d.ensures.ok_part c.look-2.ensures)) (sym c.partner.ensures ∙ c.in_ok-peer.ensures.ok_part) (sym c.partner-2.ensures ∙ known_is _ _ c.if-ne.ensures) (omega (arith, c.saturating_add-most.ensures, c.saturating_sub.ensures)) c.rounds.result c.rounds.ensures
