-- Memory that a vector has already.
use Rattle.std.specs.Prelude.{ℕ, ◌+◌, ◌≤◌, vec_len, vec_capacity, Vec}
use Rattle.std.specs.declared.alloc.Global.{Global}

-- for n elements more
abbrev pub RoomFor : {T : Type 0} → ℕ → Vec T Global → Type 0
RoomFor n v = vec_len v + n ≤ vec_capacity v
