use Rattle.std.proofs.Common.{refl, rules}
use Rattle.endpoint.proofs.Ends.{stands_new}
use Rattle.endpoint.proofs.Endpoint.new.Goals as goal

pub returns-clause-stands : goal.returns-clause-stands
returns-clause-stands c = stands_new _ refl (search rules) c.new.ensures
