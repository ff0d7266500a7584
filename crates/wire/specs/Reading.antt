-- What the reader answers, as the model has it.
use Rattle.std.specs.Prelude.{Ok, Err, Result}
use Rattle.hold.specs.Packet as m
use Rattle.packet.specs.Packets.{packet_in}
use Rattle.packet.specs.declared.packet.PacketRef.{PacketRef}
use Rattle.wire.specs.declared.fault.Fault.{Fault}

abbrev pub read_of : Result PacketRef Fault → Result m.Packet Fault
read_of (Ok p) = Ok (packet_in p)
read_of (Err f) = Err f
