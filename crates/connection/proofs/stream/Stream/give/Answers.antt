use Rattle.connection.proofs.Streams.{flows_give}
use Rattle.connection.proofs.stream.Stream.give.Goals as goal

pub returns-clause-acts : goal.returns-clause-acts
returns-clause-acts c = λ cfg. flows_give cfg c.args.self c.give-n.result.0 c.args.ring.now _ _ c.if-self.false c.give-n.ensures.upto c.give-n.ensures.waits
