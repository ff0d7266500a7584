use Rattle.std.proofs.Common.{rules}
use Rattle.std.proofs.lemmas.Slice.{overwrites}
use Rattle.wire.proofs.format.put.Goals as goal

pub returns-clause-put : goal.returns-clause-put
returns-clause-put c = search (rules, overwrites)
