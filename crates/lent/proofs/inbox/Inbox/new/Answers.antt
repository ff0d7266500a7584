use Rattle.std.proofs.Common.{refl}
use Rattle.lent.proofs.Marks.{up_none}
use Rattle.lent.proofs.inbox.Inbox.new.Goals as goal

pub returns-clause-bits : goal.returns-clause-bits
returns-clause-bits c = up_none 1024 _ refl refl
