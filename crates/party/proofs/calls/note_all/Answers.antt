use Rattle.std.proofs.Common.{map, ap, ◌∙◌, arith}
use Rattle.std.proofs.lemmas.List.{with_items_is}
use Rattle.ledger.specs.Books.{noted_in}
use Rattle.party.proofs.Noting.{map_over_at, map_over_all}
use Rattle.party.proofs.calls.note_all.Goals as goal

pub loop-account-preserved : goal.loop-account-preserved
loop-account-preserved c e s = map_over_at (noted_in e.conns) _ _ _ _ _ c.loop-account-test.true c.loop-account.auto.account-items (c.loop-account.invariant e s) (c.note.ensures e s)

pub returns : goal.returns
returns c e s = with_items_is c.args.records.now c.loop-account.account-items (omega arith) ∙ c.loop-account.invariant e s ∙ map_over_all (noted_in e.conns) _ c.loop-account.account-index c.loop-account-test.false ∙ ap (map (noted_in e.conns)) c.deref_mut-account-items.ensures.value
