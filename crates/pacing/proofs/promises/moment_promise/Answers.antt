use Rattle.pacing.proofs.Moments.{one_moment, at_most_seventeen}
use Rattle.pacing.proofs.promises.moment_promise.Goals as goal

pub returns : goal.returns
returns c = record { order = one_moment; few = at_most_seventeen }
