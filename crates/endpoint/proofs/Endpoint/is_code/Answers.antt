use Rattle.endpoint.proofs.AsCode.{agrees, code_taking}
use Rattle.endpoint.proofs.Endpoint.is_code.Goals as goal

pub returns : goal.returns
returns c = record { code = code_taking c.args.settings; agrees = agrees }
