use Rattle.std.proofs.Common.{ap}
use Rattle.hold.specs.Code.{is_ask}
use Rattle.packet.specs.Packets.{kind_of, packet_in}
use Rattle.endpoint.proofs.Hearings.{has_place, heard_kind}
use Rattle.endpoint.proofs.Endpoint.hear.Goals as goal

pub returns-in-Ask : goal.returns-in-Ask
returns-in-Ask c = let e = c.in_ok-check.ensures in let k = ap kind_of c.in-Ask.is in
    (e, heard_kind _ _ _ _ _ _ k (c.hear_ask.ensures c.args.p.text.now (has_place c.args.self.now (packet_in c.args.p) c.args.tag e (ap is_ask k))))

pub returns-in-Yes : goal.returns-in-Yes
returns-in-Yes c = (c.in_ok-check.ensures, heard_kind _ _ _ _ _ _ (ap kind_of c.in-Yes.is) (c.hear_yes.ensures c.args.p.text.now c.args.tag))

pub returns-in-Text : goal.returns-in-Text
returns-in-Text c = (c.in_ok-check.ensures, heard_kind _ _ _ _ _ _ (ap kind_of c.in-Text.is) (c.hear_text.ensures c.args.tag))

pub returns-in-Bye : goal.returns-in-Bye
returns-in-Bye c = (c.in_ok-check.ensures, heard_kind _ _ _ _ _ _ (ap kind_of c.in-Bye.is) (c.hear_bye.ensures c.args.p.text.now c.args.tag))
