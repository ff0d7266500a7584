-- What the two rings of a connection have of what was given, and of what was got and kept. A ring's numbers and its bytes stand apart: the bytes are in lent memory.
use Rattle.std.specs.Prelude.{◌≡◌, ℕ, ◌+◌, ◌%◌, ◌<◌, ◌≤◌, true, false, List, length, slice_index}
use Rattle.hold.specs.Packet.{Piece, has, byte_at}
use Rattle.packet.specs.Sizes.{capacity}
use Rattle.lent.specs.Sending.{most, limit}
use Rattle.lent.specs.Bits.{up}
use Rattle.lent.specs.declared.sender.Sender.{Sender}
use Rattle.lent.specs.declared.receiver.Receiver.{Receiver}

-- a ring has the part of a list from a place on
abbrev pub Part : List ℕ → ℕ → List ℕ → Type 0
Part ring from xs = (p : ℕ) → from ≤ p → p < length xs → slice_index ring (p % capacity) ≡ slice_index xs p

-- all that was given is g, and the ring has what the other has not confirmed
pub record SendRing (given upto : ℕ) (ring g : List ℕ) : Type 0 where
  pub given_all : given ≡ length g
  pub size : length ring ≡ capacity
  pub part : Part ring upto g
  pub few : length g ≤ upto + capacity
  pub small : length g ≤ most

abbrev pub Waits : Sender → List ℕ → List ℕ → Type 0
Waits s ring g = SendRing s.given s.upto ring g

-- All that was got is g, and the ring has what is not taken. It has what is kept too, and of the round of places that begins with the next byte those are marked that are kept, and no others.
-- window: for so many bytes beyond what was taken there is room
pub record ReceiveRing (window got taken : ℕ) (ring bits g : List ℕ) (ks : List Piece) : Type 0 where
  pub got_all : got ≡ length g
  pub size : length ring ≡ capacity
  pub narrow : window ≤ capacity
  pub part : Part ring taken g
  pub below : taken ≤ length g
  pub few : length g ≤ taken + window
  pub small : length g ≤ limit
  pub kept : (p : ℕ) → length g ≤ p → p < length g + capacity → has p ks ≡ up bits p
  pub bytes : (p : ℕ) → length g ≤ p → has p ks ≡ true → slice_index ring (p % capacity) ≡ byte_at p ks
  pub beyond : (p : ℕ) → taken + window ≤ p → has p ks ≡ false
  pub near : (p : ℕ) → length g ≤ p → has p ks ≡ true → p < limit

abbrev pub Holds : ℕ → Receiver → List ℕ → List ℕ → List ℕ → List Piece → Type 0
Holds window r ring bits g ks = ReceiveRing window r.got r.taken ring bits g ks
