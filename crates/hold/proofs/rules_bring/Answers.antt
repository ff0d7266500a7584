use Rattle.hold.proofs.rules_bring.Goals as goal
use Rattle.hold.proofs.Live.{rules_bring_lem}

pub returns : goal.returns
returns c = record { events = rules_bring_lem _; numbered = rules_bring_lem _ }
