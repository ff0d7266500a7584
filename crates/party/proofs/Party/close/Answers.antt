use Rattle.std.proofs.Common.{refl}
use Rattle.party.proofs.Parties.{closed_acts}
use Rattle.party.proofs.Party.close.Goals as goal

pub returns : goal.returns
returns c = closed_acts c.args.self.now _ c.close.new.self _ c.look_around.ensures.end c.look_around.ensures.seen c.args.tag c.in_ok-close.ensures.1 refl
