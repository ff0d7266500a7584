use Rattle.packet.specs.Packets.{packet_in}
use Rattle.wire.proofs.Behind.{three}
use Rattle.wire.proofs.format.write_all.Goals as goal

pub returns-clause-bytes : goal.returns-clause-bytes
returns-clause-bytes c =
    three (packet_in c.args.p) c.write_header.new.out _ _ _ c.args.out.now _
    c.write_header.ensures.bytes c.put.ensures.put c.crc32c.ensures c.to_be_bytes-check.ensures c.put-2.ensures.put
