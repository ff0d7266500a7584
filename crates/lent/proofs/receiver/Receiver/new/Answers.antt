use Rattle.lent.proofs.Receivers.{receive_none}
use Rattle.lent.proofs.receiver.Receiver.new.Goals as goal

pub returns-clause-holds : goal.returns-clause-holds
returns-clause-holds c = receive_none
