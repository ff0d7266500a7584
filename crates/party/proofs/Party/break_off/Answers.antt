use Rattle.std.proofs.Common.{refl}
use Rattle.packet.specs.Packets.{sent}
use Rattle.party.proofs.Parties.{broken_acts}
use Rattle.party.proofs.Party.break_off.Goals as goal

pub returns : goal.returns
returns c = broken_acts c.args.self.now _ c.break_off.new.self _ c.look_around.ensures.end c.look_around.ensures.seen c.args.tag (sent c.in_ok-bye.bye) c.in_ok-bye.ensures.1 refl
