use Rattle.std.proofs.Common.{refl}
use Rattle.hold.specs.Conn.{Gone, in_phase}
use Rattle.hold.specs.World.{Found, on_bye}
use Rattle.packet.specs.Packets.{packet_of}
use Rattle.endpoint.specs.Stands.{cfg, lent}
use Rattle.endpoint.proofs.Memory.{beside}
use Rattle.endpoint.proofs.Hearings.{for_it, for_other, no_one}
use Rattle.endpoint.proofs.Endpoint.hear_bye.Goals as goal

pub returns-in_default : goal.returns-in_default
returns-in_default c = λ ts t. let p = packet_of c.args.p ts in record {
  settings = refl;
  world = λ o w s d. no_one c.args.self.now o w s p c.in_default.ensures.is (λ (m : Found). on_bye o p m w) refl;
}

pub returns-then-is_partner : goal.returns-then-is_partner
returns-then-is_partner c = λ ts t. let p = packet_of c.args.p ts in let x = c.args.self.now in record {
  settings = refl;
  world = λ o w s d. for_it x o w s p (λ (m : Found). on_bye o p m w) (in_phase Gone) (λ e. refl) c.in-Some.lane c.in-Some.ensures.is _ (beside c.in-Some.lane x _ refl refl refl) c.gone.result refl refl
      c.if-is_partner.ensures (λ _. c.gone.ensures.acts (cfg x) (lent x c.in-Some.lane));
}

pub returns-else-is_partner : goal.returns-else-is_partner
returns-else-is_partner c = λ ts t. let p = packet_of c.args.p ts in record {
  settings = refl;
  world = λ o w s d. for_other c.args.self.now o w s p (λ (m : Found). on_bye o p m w) (in_phase Gone) (λ e. refl) c.in-Some.lane c.in-Some.ensures.is c.if-is_partner.ensures;
}
