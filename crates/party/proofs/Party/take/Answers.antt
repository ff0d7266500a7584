use Rattle.std.proofs.Common.{◌∙◌, sym, subst}
use Rattle.table.specs.Lodges.{Lodges}
use Rattle.table.specs.declared.Table.{Table}
use Rattle.party.proofs.Parties.{cut, took_acts}
use Rattle.party.proofs.Party.take.Goals as goal

pub returns : goal.returns
returns c = took_acts c.args.self.now _ c.take.new.self c.take-2.new.self c.look_around.ensures.end c.look_around.ensures.seen c.reserve.new.self c.reserve.ensures.same c.args.tag c.in_ok-ok_or.field-0 c.args.out.now c.take.new.out _ c.in_ok-count.count
    (λ cfg mem cs l. sym c.in_ok-ok_or.ensures.ok_part ∙ c.look.ensures cfg mem cs (subst (λ (z : Table). Lodges cfg mem z cs) (sym c.table.ensures) l)) c.in_ok-count.ensures c.in_ok-reserve.ensures.ready c.take-2.ensures.records c.take-2.ensures.given
    (cut c.min.result c.in_ok-count.count c.take.new.out c.min.ensures) c.take-2.ensures.taken_after
