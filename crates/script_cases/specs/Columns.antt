-- The column of a fault, where there is one.
use Rattle.std.specs.Prelude.{ℕ, List, Some, None, Ok, Err, Option, Result}
use Rattle.script.specs.Parse.{Item}

abbrev pub column_of : Result (List Item) ℕ → Option ℕ
column_of (Ok is) = None
column_of (Err column) = Some column
