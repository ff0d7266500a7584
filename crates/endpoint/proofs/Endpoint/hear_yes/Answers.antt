use Rattle.std.proofs.Common.{refl}
use Rattle.hold.specs.World.{Found, on_yes}
use Rattle.packet.specs.Packets.{packet, packet_of}
use Rattle.endpoint.specs.Stands.{cfg, lent}
use Rattle.endpoint.proofs.Memory.{beside}
use Rattle.endpoint.proofs.Hearings.{bye_back, yes_asked, yes_other, yes_same}
use Rattle.endpoint.proofs.Endpoint.hear_yes.Goals as goal

pub returns-in_default : goal.returns-in_default
returns-in_default c = λ ts t. let p = packet_of c.args.p ts in record {
  settings = refl;
  world = λ o w s d. bye_back c.args.self.now o w s p c.in_default.ensures.is (λ (m : Found). on_yes o p m w) refl (packet c.bare.result) c.bare.ensures;
}

pub returns-then-is_asked : goal.returns-then-is_asked
returns-then-is_asked c = λ ts t. let x = c.args.self.now in record {
  settings = refl;
  world = λ o w s d. yes_asked x o w s (packet_of c.args.p ts) c.in-Some.lane c.in-Some.ensures.is _ (beside c.in-Some.lane x _ refl refl refl) c.open_with.result refl refl
      c.if-is_asked.ensures (λ _. c.open_with.ensures (cfg x) (lent x c.in-Some.lane));
}

pub returns-then-c-p : goal.returns-then-c-p
returns-then-c-p c = λ ts t. record {
  settings = refl;
  world = λ o w s d. yes_same c.args.self.now o w s (packet_of c.args.p ts) c.in-Some.lane c.in-Some.ensures.is c.if-is_asked.ensures c.if-c-p.true;
}

pub returns : goal.returns
returns c = λ ts t. record {
  settings = refl;
  world = λ o w s d. yes_other c.args.self.now o w s (packet_of c.args.p ts) c.in-Some.lane c.in-Some.ensures.is c.if-is_asked.ensures c.if-c-p.false (packet c.bare-2.result) c.bare-2.ensures;
}
