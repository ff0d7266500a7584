-- What can be looked at from outside.
use Rattle.std.specs.Prelude.{List, vec_items}
use Rattle.packet.specs.declared.packet.Packet.{Packet}
use Rattle.ledger.specs.declared.book.Book.{Book}
use Rattle.simulation.specs.declared.pair.Pair.{Pair}
use Rattle.simulation.specs.Sides.{of_side, other_side}
use Rattle.simulation.specs.declared.pair.Side.{Side}

abbrev pub book_of : Side → Pair → Book
book_of s p = (of_side s p.halves).party.book

-- all packets that were ever sent to a side, the oldest first
abbrev pub sent_to : Side → Pair → List Packet
sent_to s p = vec_items (of_side (other_side s) p.halves).sent
