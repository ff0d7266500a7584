use Rattle.std.proofs.Common.{refl, ⊎_elim}
use Rattle.hold.specs.Conn.{Half, new}
use Rattle.hold.specs.World.{end}
use Rattle.packet.specs.Packets.{packet, packet_of}
use Rattle.endpoint.specs.Stands.{cfg}
use Rattle.endpoint.proofs.Ends.{joined}
use Rattle.endpoint.proofs.Hearings.{ask_again, ask_deaf, ask_new, ask_zero}
use Rattle.endpoint.proofs.Endpoint.hear_ask.Goals as goal

pub returns-in-Some : goal.returns-in-Some
returns-in-Some c = λ ts room. record {
  settings = refl;
  world = λ o w s d. ask_again c.args.self.now o w s (packet_of c.args.p ts) c.args.tag c.in-Some.lane c.in-Some.ensures.is (packet c.bare.result) c.bare.ensures;
}

pub returns-then-not-self : goal.returns-then-not-self
returns-then-not-self c = λ ts room. record {
  settings = refl;
  world = λ o w s d. let x = c.args.self.now in let p = packet_of c.args.p ts in
      ⊎_elim (ask_deaf x o w s p c.args.tag c.in_default.ensures.is) (λ z. ask_zero x o w s p c.args.tag c.in_default.ensures.is z.1) c.then-not-self.either;
}

pub returns : goal.returns
returns c = λ ts room. let x = c.args.self.now in let j = joined x c.add.new.self c.new.result c.add.result c.in_ok-ok.ensures.value c.add.ensures in record {
  settings = j.0;
  world = λ o w s d. ask_new x o w s (packet_of c.args.p ts) c.args.tag c.in_default.ensures.is _ (j.1 (end o w) (new Half c.args.tag c.args.p.from) s (λ mem. c.new.ensures (cfg x) mem x.settings.held))
      c.if-not-self.false d c.if-tag-eq0.false (packet c.bare-2.result) c.bare-2.ensures;
}
