-- What is found in a table.
use Rattle.std.specs.Prelude.{ℕ, ◌<◌, Bool, cond, ◌&&◌, ◌||◌, List, [], ◌∷◌, is_some, Some, None, Option, ◌==◌, nat_lt, slice_index_or}
use Rattle.hold.specs.World.{gone}
use Rattle.connection.specs.Fields.{blank, has_peer, has_tag}
use Rattle.connection.specs.Phases.{phase_of}
use Rattle.connection.specs.declared.connection.Connection.{Connection}
use Rattle.lanes.specs.Used.{used}
use Rattle.table.specs.Housed.{seek}
use Rattle.table.specs.declared.Table.{Table}
use Rattle.table.specs.declared.Wanted.{Wanted}
use Rattle.table.specs.declared.Wanted.TheVariants.{Tag, Peer, Gone}

-- the connection in a lane
abbrev pub at : Table → ℕ → Connection
at x l = slice_index_or x.conns l blank

abbrev pub is_gone : Connection → Bool
is_gone c = gone (phase_of c.pairing.phase)

abbrev pub meets : Wanted → Connection → Bool
meets (Tag t) c = has_tag t c.pairing
meets (Peer t) c = has_peer t c.pairing
meets (Gone t) c = is_gone c && c.pairing.mine == t

-- the lane of the youngest that is wanted
abbrev pub finds : Wanted → Table → Option ℕ
finds k x = seek (λ l. meets k (at x l)) (used x.lanes)

-- what is found is a lane
abbrev pub Within : Option ℕ → Type 0
Within None = Unit {0}
Within (Some l) = l < 16

-- a tag that is there, or was and is gone
abbrev pub is_there : ℕ → Table → Bool
is_there t x = is_some (finds (Tag t) x) || is_some (finds (Gone t) x)

abbrev pub or_else : Option ℕ → Option ℕ → Option ℕ
or_else (Some k) o = Some k
or_else None o = o

-- the lane of a tag: of the connection that has it, or else of one that had it
abbrev pub lane_of : ℕ → Table → Option ℕ
lane_of t x = or_else (finds (Tag t) x) (finds (Gone t) x)

-- the last of some lanes that passes a test
abbrev pub eldest : (ℕ → Bool) → List ℕ → Option ℕ
eldest test [] = None
eldest test (l ∷ ls) = or_else (eldest test ls) (cond (test l) (Some l) None)

-- the lane of the oldest that is gone
abbrev pub oldest_gone : Table → Option ℕ
oldest_gone x = eldest (λ l. is_gone (at x l)) (used x.lanes)

-- one more can be added, the oldest that is gone being forgotten where there is no free lane
abbrev pub has_room : Table → Bool
has_room x = nat_lt x.lanes.count 16 || is_some (oldest_gone x)
