use Rattle.connection.proofs.Connections.{took, drained}
use Rattle.connection.proofs.connection.Connection.take.Goals as goal

pub returns-clause-took : goal.returns-clause-took
returns-clause-took c = λ cfg. took cfg c.args.self c.args.ring.now c.args.out.now _ c.take-n.result.1 c.take-n.ensures.moved

pub returns-clause-drained : goal.returns-clause-drained
returns-clause-drained c = λ cfg. drained cfg c.args.self c.take-n.result.0 c.args.ring.now c.args.out.now _ c.take-n.result.1 c.take-n.ensures.ended c.take-n.ensures.kept c.take-n.ensures.moved
