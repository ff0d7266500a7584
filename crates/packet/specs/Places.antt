-- How far places and edges go.
use Rattle.std.specs.Prelude.{ℕ, ◌+◌, ◌^◌, Bool, ◌||◌, nat_lt}
use Rattle.packet.specs.Sizes.{capacity}

-- no place of a stream is beyond this
abbrev pub most_place : ℕ
most_place = 2 ^ 62

-- no edge is beyond this
abbrev pub most_edge : ℕ
most_edge = most_place + capacity

-- a place, an upto or an edge that no stream has
abbrev pub beyond : ℕ → ℕ → ℕ → Bool
beyond place upto edge = nat_lt most_place place || (nat_lt most_place upto || nat_lt most_edge edge)
