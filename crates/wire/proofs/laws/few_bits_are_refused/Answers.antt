use Rattle.wire.proofs.Damage.{few_bits_are_refused_lem}
use Rattle.wire.proofs.laws.few_bits_are_refused.Goals as goal

pub returns : goal.returns
returns c = few_bits_are_refused_lem
