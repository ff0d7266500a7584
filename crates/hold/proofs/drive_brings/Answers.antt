use Rattle.hold.proofs.drive_brings.Goals as goal
use Rattle.hold.proofs.Drive.{take_frees, silent_has, drive_brings_lem}
use Rattle.hold.proofs.SelfRounds.{round_falls}

pub returns : goal.returns
returns c = record { falls = round_falls; frees = take_frees; silent = silent_has; brings = drive_brings_lem }
