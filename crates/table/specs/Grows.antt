-- One connection more in a table.
use Rattle.std.specs.Prelude.{◌≡◌, ℕ, ◌<◌, true, false, cond, List, ◌∷◌, Some, None, Option, nat_lt, slice_set}
use Rattle.connection.specs.declared.connection.Connection.{Connection}
use Rattle.lanes.specs.Used.{is_in, used, without}
use Rattle.table.specs.Search.{has_room, oldest_gone}
use Rattle.table.specs.declared.Table.{Table}

abbrev pub less : Option ℕ → List ℕ → List ℕ
less None ls = ls
less (Some l) ls = without l ls

-- the lanes that stay in use when one more is wanted
abbrev pub remain : Table → List ℕ
remain x = cond (nat_lt x.lanes.count 16) (used x.lanes) (less (oldest_gone x) (used x.lanes))

-- c is added as the youngest; or there is no room
abbrev pub Grown : Table → Table → Connection → Option ℕ → Type 0
Grown x y c None = (has_room x ≡ false) × (y ≡ x)
Grown x y c (Some l) = (has_room x ≡ true) × (l < 16) × (is_in l (remain x) ≡ false) × (used y.lanes ≡ l ∷ remain x) × (y.conns ≡ slice_set x.conns l c)
