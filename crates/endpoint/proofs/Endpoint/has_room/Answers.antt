use Rattle.std.proofs.Common.{sym, ◌∙◌}
use Rattle.table.proofs.Lodging.{all_full}
use Rattle.endpoint.specs.Stands.{cfg, lent}
use Rattle.endpoint.proofs.Endpoint.has_room.Goals as goal

pub returns-clause-full : goal.returns-clause-full
returns-clause-full c = let x = c.args.self.now in λ f e s. all_full (cfg x) (lent x) x.table s.table (sym c.has_room.ensures ∙ f)
