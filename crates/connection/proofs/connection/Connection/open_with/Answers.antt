use Rattle.connection.proofs.Connections.{acts_open}
use Rattle.connection.proofs.connection.Connection.open_with.Goals as goal

pub returns : goal.returns
returns c = λ cfg. acts_open cfg c.args.self c.open_with-self.result c.args.theirs c.open_with-self.ensures
