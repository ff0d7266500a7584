use Rattle.std.proofs.Common.{rules}
use Rattle.lent.proofs.Marks.{up_none}
use Rattle.lent.proofs.inbox.Inbox.clear.Goals as goal

pub returns-clause-bits : goal.returns-clause-bits
returns-clause-bits c = up_none _ _ (search rules) (c.fill.ensures.after (λ y e. e))
