-- A book in which there is memory for what comes next.
use Rattle.std.specs.Prelude.{◌≡◌, ℕ, vec_items}
use Rattle.ledger.specs.Room.{RoomFor}
use Rattle.ledger.specs.declared.book.Book.{Book}

-- two books say the same
pub record SameBook (x y : Book) : Type 0 where
  pub records : vec_items y.records ≡ vec_items x.records
  pub given : vec_items y.given ≡ vec_items x.given
  pub taken : vec_items y.taken ≡ vec_items x.taken

-- for one record, and for so many bytes given and taken
pub record Ready (n : ℕ) (x : Book) : Type 0 where
  pub records : RoomFor 1 x.records
  pub given : RoomFor n x.given
  pub taken : RoomFor n x.taken
