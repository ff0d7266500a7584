use Rattle.party.proofs.Parties.{new_plays}
use Rattle.party.proofs.Party.restart.Goals as goal

pub returns-clause-plays : goal.returns-clause-plays
returns-clause-plays c o = new_plays o _ (c.restart.ensures.stands o) c.new.ensures.records c.new.ensures.given c.new.ensures.taken
