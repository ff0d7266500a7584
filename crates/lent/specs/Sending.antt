-- How much may be given.
use Rattle.std.specs.Prelude.{ℕ, ◌+◌, ◌-◌, ◌^◌, min}
use Rattle.packet.specs.Sizes.{capacity, text_size}

-- no stream has more bytes than these
abbrev pub most : ℕ
most = 2 ^ 62

-- no byte that comes stands beyond this place
abbrev pub limit : ℕ
limit = most + text_size

-- how many bytes more may be given, so many being given and so many confirmed
abbrev pub free : ℕ → ℕ → ℕ
free given upto = min (upto + capacity - given) (most - given)
