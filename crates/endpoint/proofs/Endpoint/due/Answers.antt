use Rattle.std.proofs.Common.{refl}
use Rattle.hold.specs.World.{due_if}
use Rattle.endpoint.specs.Stands.{cfg, lent}
use Rattle.endpoint.proofs.Sayings.{says_none, says_of}
use Rattle.endpoint.proofs.Endpoint.due.Goals as goal

pub returns-in_err-lane : goal.returns-in_err-lane
returns-in_err-lane c = let x = c.args.self.now in record { settings = refl; world = λ o w s. rw c.from_residual.ensures (says_none x o w s c.args.tag _ (due_if (cfg x)) c.in_err-lane.ensures.is refl) }

pub returns : goal.returns
returns c = let x = c.args.self.now in record {
  settings = refl;
  world = λ o w s. says_of x o w s c.args.tag _ (due_if (cfg x)) c.in_ok-lane.lane c.in_ok-lane.ensures.is (c.due_now.ensures (lent x c.in_ok-lane.lane).into (lent x c.in_ok-lane.lane).bits);
}
