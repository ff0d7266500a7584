use Rattle.std.proofs.Common.{arith}
use Rattle.packet.specs.Agreed.{cfg_of}
use Rattle.packet.specs.Packets.{packet}
use Rattle.connection.proofs.Texts.{says_is}
use Rattle.connection.proofs.connection.Connection.says.Goals as goal

pub returns : goal.returns
returns c = says_is (cfg_of c.args.settings) c.args.self.now c.args.ring.now c.args.span.place c.args.span.most c.max-place.result c.min-most.result (packet c.text.result) c.args.settings.short c.max-place.ensures (omega arith) c.text.ensures
