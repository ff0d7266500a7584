use Rattle.pacing.proofs.Waiting.{always_timely, owes-speaks, clock_carries, clock_restarts}
use Rattle.pacing.proofs.promises.waiting_promise.Goals as goal

pub returns : goal.returns
returns c = record { always = always_timely; speaks = owes-speaks; carries = clock_carries; restarts = clock_restarts }
