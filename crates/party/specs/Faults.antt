-- The number of each fault.
use Rattle.std.specs.Prelude.{ℕ}
use Rattle.endpoint.specs.Refusals.{number}
use Rattle.party.specs.declared.Fault.{Fault}
use Rattle.party.specs.declared.Fault.TheVariants.{Refused, Unfit, Memory}

-- that of a refusal; 1 for what names no packet, for a tag that was drawn before, and where there is no memory
abbrev pub fault_number : Fault → ℕ
fault_number (Refused f) = number f
fault_number Unfit = 1
fault_number Memory = 1
