use Rattle.party.proofs.Parties.{opened_acts}
use Rattle.party.proofs.Party.open.Goals as goal

pub returns : goal.returns
returns c = opened_acts c.args.self.now _ c.open.new.self c.begin.new.self c.look_around.ensures.end c.look_around.ensures.seen c.reserve.new.self c.reserve.ensures.same c.args.tag c.in_ok-ask.ask
    c.in_ok-ask.ensures.0 c.in_ok-ask.ensures.1 (c.begin.ensures.records_after c.in_ok-reserve.ensures.ready.records) c.begin.ensures.given c.begin.ensures.taken
