use Rattle.connection.proofs.Streams.{begins}
use Rattle.connection.proofs.stream.Stream.new.Goals as goal

pub returns : goal.returns
returns c = begins c.new.result c.new-2.result c.new.ensures.waits c.new.ensures.upto c.new-2.ensures.holds c.new-2.ensures.taken
