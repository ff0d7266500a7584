use Rattle.std.proofs.Common.{refl}
use Rattle.hold.specs.Conn.{Conn, hears, open_with}
use Rattle.hold.specs.World.{Found, on_text}
use Rattle.packet.specs.Packets.{packet, packet_in}
use Rattle.endpoint.specs.Stands.{cfg}
use Rattle.endpoint.proofs.Memory.{acts_in, beside_lane}
use Rattle.endpoint.proofs.Hearings.{bye_back, for_it, for_other}
use Rattle.endpoint.proofs.Endpoint.hear_text.Goals as goal

pub returns-in_default : goal.returns-in_default
returns-in_default c = λ t. let p = packet_in c.args.incoming.now.packet in let x = c.args.self.now in record {
  settings = refl;
  world = λ o w s d. bye_back x o w s p c.in_default.ensures.is (λ (m : Found). on_text (cfg x) o p m w) refl (packet c.bare.result) c.bare.ensures;
}

pub returns-then-is_partner : goal.returns-then-is_partner
returns-then-is_partner c = λ t. let p = packet_in c.args.incoming.now.packet in let x = c.args.self.now in record {
  settings = refl;
  world = λ o w s d. for_it x o w s p (λ (m : Found). on_text (cfg x) o p m w) (λ (e : Conn). hears (cfg x) p (open_with p.from e)) (λ e. refl) c.in-Some.lane c.in-Some.ensures.is _ (beside_lane c.in-Some.lane x _ refl refl _ refl)
      c.hear.result refl refl c.if-is_partner.ensures (λ z. acts_in c.in-Some.lane c.in-Some.ensures.within x z _ c.hear.result _ (c.hear.ensures _));
}

pub returns-else-is_partner : goal.returns-else-is_partner
returns-else-is_partner c = λ t. let p = packet_in c.args.incoming.now.packet in let x = c.args.self.now in record {
  settings = refl;
  world = λ o w s d. for_other x o w s p (λ (m : Found). on_text (cfg x) o p m w) (λ (e : Conn). hears (cfg x) p (open_with p.from e)) (λ e. refl) c.in-Some.lane c.in-Some.ensures.is c.if-is_partner.ensures;
}
