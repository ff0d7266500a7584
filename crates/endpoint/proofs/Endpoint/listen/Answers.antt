use Rattle.std.proofs.Common.{[], refl}
use Rattle.endpoint.proofs.Ends.{after-put}
use Rattle.endpoint.proofs.Endpoint.listen.Goals as goal

pub returns : goal.returns
returns c = record {
  settings = refl;
  world = λ o w s. after-put _ [] o _ [] w (record { listens = refl; sized = s.sized; table = s.table });
}
