use Rattle.std.proofs.Common.{arith}
use Rattle.packet.specs.Agreed.{cfg_of}
use Rattle.packet.specs.Packets.{packet}
use Rattle.connection.proofs.Texts.{due_is}
use Rattle.connection.proofs.connection.Connection.due.Goals as goal

pub returns : goal.returns
returns c = due_is (cfg_of c.args.settings) c.args.self.now c.args.ring.now c.max-most.result (packet c.text.result) c.args.settings.short (omega arith) c.text.ensures
