-- CRC-32C bit by bit. The bytes are a polynomial over two elements, the lowest bit of each byte first, and the register is what is left of it
-- by division: its bit 31 - k stands for x^k, so that a step down is a product with x.
use Rattle.std.specs.Prelude.{ℕ, ◌*◌, ◌/◌, ◌%◌, ◌<◌, List, fold, bit_xor, slice_index}

-- the generator 1EDC6F41, read from its other end
abbrev pub generator : ℕ
generator = 0x82f63b78

-- one bit: the register moves down, and the generator is taken away where a 1 moved out
abbrev pub bit_step : ℕ → ℕ
bit_step c = bit_xor (c / 2) ((c % 2) * generator)

unfoldable pub eight_steps : ℕ → ℕ
eight_steps c = bit_step (bit_step (bit_step (bit_step (bit_step (bit_step (bit_step (bit_step c)))))))

-- one byte: it is added at the low end, and moved out
unfoldable pub byte_step : ℕ → ℕ → ℕ
byte_step c b = eight_steps (bit_xor c b)

abbrev pub register_after : ℕ → List ℕ → ℕ
register_after c bs = fold byte_step c bs

-- the check: the register is all ones at first, and turned at last
abbrev pub crc_of : List ℕ → ℕ
crc_of bs = bit_xor (register_after 0xffffffff bs) 0xffffffff

-- each is a byte
abbrev pub Bytes : List ℕ → Type 0
Bytes s = (i : ℕ) → slice_index s i < 256
