use Rattle.std.proofs.Common.{sym, ◌∙◌}
use Rattle.table.proofs.Lodging.{there}
use Rattle.endpoint.specs.Stands.{cfg, lent}
use Rattle.endpoint.proofs.Endpoint.has.Goals as goal

pub returns-clause-had : goal.returns-clause-had
returns-clause-had c = let x = c.args.self.now in λ f e s. there (cfg x) (lent x) x.table s.table c.args.tag (sym c.has.ensures ∙ f)
