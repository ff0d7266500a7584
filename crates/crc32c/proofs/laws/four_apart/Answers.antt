use Rattle.crc32c.proofs.Apart.{four_apart_lem}
use Rattle.crc32c.proofs.laws.four_apart.Goals as goal

pub returns : goal.returns
returns c = four_apart_lem
