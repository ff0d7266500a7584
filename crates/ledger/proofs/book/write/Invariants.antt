use Rattle.std.proofs.Common.{◌≡◌, ◌+◌, ◌≤◌, ◌++◌, length, take, vec_items, vec_len, vec_capacity}
use Rattle.ledger.specs.Books.{entries}
use Rattle.ledger.specs.Room.{RoomFor}
use Rattle.ledger.proofs.book.write.Given as goal

abbrev pub invariant-loop-byte : goal.invariant-loop-byte
invariant-loop-byte l = RoomFor (length l.bytes) l.initial.book → (vec_items l.book ≡ vec_items l.initial.book ++ entries l.tag (take l.byte-index l.bytes)) × (vec_len l.book ≡ vec_len l.initial.book + l.byte-index) × (vec_capacity l.initial.book ≤ vec_capacity l.book)
