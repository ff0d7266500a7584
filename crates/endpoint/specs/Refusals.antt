-- The number of each refusal.
use Rattle.std.specs.Prelude.{ℕ, Ok, Err, Result}
use Rattle.endpoint.specs.declared.Refusal.{Refusal}
use Rattle.endpoint.specs.declared.Refusal.TheVariants.{TooLong, ZeroTag, TooFar, NotThere, Closed, Full, TagThere, AllGiven}

abbrev pub number : Refusal → ℕ
number TooLong = 1
number ZeroTag = 3
number TooFar = 4
number NotThere = 5
number Closed = 6
number Full = 7
number TagThere = 8
number AllGiven = 9

-- the number that an answer is refused with; 0 where it is not refused
abbrev pub number_of : {A : Type 0} → Result A Refusal → ℕ
number_of (Ok a) = 0
number_of (Err f) = number f
