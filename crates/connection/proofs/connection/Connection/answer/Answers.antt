use Rattle.std.proofs.Common.{rules}
use Rattle.connection.proofs.connection.Connection.answer.Goals as goal

pub returns : goal.returns
returns c = λ into bits d st. let h = c.says.ensures into bits d st in search rules
