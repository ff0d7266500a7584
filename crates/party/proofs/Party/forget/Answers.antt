use Rattle.std.proofs.Common.{refl}
use Rattle.party.proofs.Parties.{forgot_acts}
use Rattle.party.proofs.Party.forget.Goals as goal

pub returns : goal.returns
returns c = forgot_acts c.args.self.now _ c.forget.new.self _ c.look_around.ensures.end c.look_around.ensures.seen c.args.tag c.in_ok-forget.ensures.2 refl
