use Rattle.hold.proofs.rules_hold.Goals as goal
use Rattle.hold.proofs.Parts.{rules_hold_lem, events_move}

pub returns : goal.returns
returns c = record { hold = rules_hold_lem; events = events_move }
