use Rattle.pacing.proofs.Waking.{sleeps, wakes, finishes, opening_moments}
use Rattle.pacing.proofs.promises.tick_promise.Goals as goal

pub returns : goal.returns
returns c = record { sleeps = sleeps; wakes = wakes; finished = finishes; opening = opening_moments }
