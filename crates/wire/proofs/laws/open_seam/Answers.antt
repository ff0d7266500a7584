use Rattle.wire.proofs.Seam.{open-seam}
use Rattle.wire.proofs.laws.open_seam.Goals as goal

pub returns : goal.returns
returns c = open-seam
