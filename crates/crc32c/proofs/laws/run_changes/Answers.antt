use Rattle.crc32c.proofs.Steps.{run_changes_lem}
use Rattle.crc32c.proofs.laws.run_changes.Goals as goal

pub returns : goal.returns
returns c = run_changes_lem
