use Rattle.std.proofs.Common.{Ok, rules}
use Rattle.packet.specs.Packets.{packet_in}
use Rattle.wire.specs.Format.{Written}
use Rattle.wire.proofs.Trip.{reads_back}
use Rattle.wire.proofs.format.write.Goals as goal

pub returns-clause-back : goal.returns-clause-back
returns-clause-back c =
    let w : Written (packet_in c.args.p) c.args.out.now c.write_all.new.out (Ok c.write_all.result) = search rules in
    reads_back (packet_in c.args.p) _ _ _ c.write_all.ensures.fits w
