use Rattle.pacing.proofs.Sixteen.{rows_enough, new_when_few}
use Rattle.pacing.proofs.promises.flight_promise.Goals as goal

pub returns : goal.returns
returns c = record { enough = rows_enough; few = new_when_few }
