use Rattle.std.proofs.Common.{rules}
use Rattle.connection.proofs.connection.Connection.due_now.Goals as goal

pub returns-in-Open : goal.returns-in-Open
returns-in-Open c = λ into bits d st. let h = c.due.ensures into bits d st in search rules
