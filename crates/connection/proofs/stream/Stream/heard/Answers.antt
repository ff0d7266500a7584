use Rattle.std.proofs.Common.{ap, ◌∙◌}
use Rattle.std.specs.Option.{option_or}
use Rattle.packet.specs.Agreed.{cfg_of}
use Rattle.packet.specs.Packets.{packet_in}
use Rattle.connection.proofs.Streams.{flows_heard}
use Rattle.connection.proofs.stream.Stream.heard.Goals as goal

pub returns : goal.returns
returns c = flows_heard (cfg_of c.args.settings) c.args.self (packet_in c.args.incoming.now.packet) c.max.result c.or-self.result c.confirm-self.result c.args.inbox.now.ring c.args.inbox.now.bits _ _
    c.max.ensures (c.or-self.ensures ∙ ap (option_or c.args.self.end) c.then_some.ensures) c.confirm-self.ensures.upto c.confirm-self.ensures.waits c.keep_all.ensures
