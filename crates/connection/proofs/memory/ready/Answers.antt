use Rattle.std.proofs.Common.{rules}
use Rattle.lent.proofs.Marks.{up_none}
use Rattle.connection.proofs.memory.ready.Goals as goal

pub returns : goal.returns
returns c = record { out = search rules; into = search rules; bits = up_none _ _ (search rules) (c.fill.ensures.after (λ y e. e)) }
