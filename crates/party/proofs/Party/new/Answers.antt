use Rattle.party.proofs.Parties.{new_plays}
use Rattle.party.proofs.Party.new.Goals as goal

pub returns-clause-plays : goal.returns-clause-plays
returns-clause-plays c o = new_plays o _ (c.new.ensures.stands o) c.new-2.ensures.records c.new-2.ensures.given c.new-2.ensures.taken
