use Rattle.party.proofs.Parties.{cut, gave_acts}
use Rattle.party.proofs.Party.give.Goals as goal

pub returns : goal.returns
returns c = gave_acts c.args.self.now _ c.give.new.self c.give-2.new.self c.look_around.ensures.end c.look_around.ensures.seen c.reserve.new.self c.reserve.ensures.same c.args.tag c.args.bytes.now _ c.in_ok-count.count
    c.in_ok-count.ensures c.in_ok-reserve.ensures.ready c.give-2.ensures.records (cut c.min.result c.in_ok-count.count c.args.bytes.now c.min.ensures) c.give-2.ensures.given_after c.give-2.ensures.taken
