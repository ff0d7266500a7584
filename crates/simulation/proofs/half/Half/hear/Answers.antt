use Rattle.std.proofs.Common.{vec_items, arith}
use Rattle.endpoint.specs.Stands as E
use Rattle.packet.specs.Packets.{packet}
use Rattle.simulation.proofs.Drawn.{new_kind}
use Rattle.simulation.proofs.OneSide.{drew, half_draws, heard_nth, may_draw}
use Rattle.simulation.proofs.half.Half.hear.Goals as goal

pub returns : goal.returns
returns c came i at =
    let cfg = E.cfg c.args.self.now.party.end in
    half_draws c.args.self.now _ came (vec_items c.reserve-2.new.self) _ _ _ c.reserve-2.ensures.items (c.post.ensures c.in_ok-reserve-2.ensures.ok) _ _ c.args.draws c.in_ok-answer.ensures
    (may_draw c.args.draws (vec_items c.args.drawn.now) _ c.deref.ensures.value c.if-not-is_fresh.ensures)
    (drew _ _ _ c.args.draws _ c.reserve.ensures.items (c.push.ensures.succeeds (omega (arith, c.in_ok-reserve.ensures.ok))) c.push.ensures.items)
    (λ o es n. heard_nth cfg o c.args.draws came i c.args.p.now es at n) (λ o w. new_kind c.args.draws cfg o (packet c.args.p.now) _ w)
