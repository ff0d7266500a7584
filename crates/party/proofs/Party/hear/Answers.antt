use Rattle.std.proofs.Common.{◌≡◌, sym, ◌∙◌, subst}
use Rattle.hold.specs.Packet as m
use Rattle.endpoint.specs.Stands.{Stands}
use Rattle.endpoint.specs.Steps.{Heard}
use Rattle.endpoint.specs.declared.Endpoint.{Endpoint}
use Rattle.packet.specs.Packets.{Viewed, packet, packet_in, sent}
use Rattle.party.proofs.Parties.{heard_acts}
use Rattle.party.proofs.Party.hear.Goals as goal

pub returns : goal.returns
returns c =
    let v = c.in_ok-view.view in
    let seen = subst (Viewed c.args.p.now) c.in_ok-view.ensures.ok_part c.view.ensures in
    let same : packet_in v ≡ packet c.args.p.now = let h = seen.1 in let t = seen.2 in cc in
    heard_acts c.args.self.now _ c.hear.new.self c.meet.new.self.book (c.look_around.ensures.end ∙ c.meet.ensures.end) (λ e s. c.look_around.ensures.seen e (subst (λ (z : Endpoint). Stands z e) (sym c.meet.ensures.end) s))
    c.reserve.new.self c.reserve.ensures.same (packet c.args.p.now) c.args.draws (sent c.in_ok-reply.reply) (subst (λ (p : m.Packet). Heard c.args.self.now.end c.hear.new.self (sent c.in_ok-reply.reply) p p.kind c.args.draws) same c.in_ok-reply.ensures.1)
    c.in_ok-reserve.ensures.ready c.meet.ensures.met
