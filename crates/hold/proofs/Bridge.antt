-- The model's larger and lower are the library's max and min: for the shelf's lemmas. Assumes nothing.
use Rattle.std.proofs.Common.{◌≡◌, ℕ, min, max, arith}
use Rattle.std.proofs.lemmas.Bool.Decides.{nat_tests}
use Rattle.hold.specs.Packet.{larger, lower}

pub larger_lib : (a b : ℕ) → larger a b ≡ max a b
larger_lib a b = grind (arith, nat_tests)

pub lower_lib : (a b : ℕ) → lower a b ≡ min a b
lower_lib a b = grind (arith, nat_tests)
