-- The register has 32 bits.
use Rattle.std.proofs.Common.{ℕ, zero, suc, ◌*◌, ◌/◌, ◌%◌, ◌^◌, ◌<◌, List, [], ◌∷◌, ◌++◌, arith}
use lib.Bits.{bit_xor, xor_lt}
use Rattle.crc32c.specs.Crc.{Bytes, generator, bit_step, eight_steps, byte_step, register_after, crc_of}

pub bit_lt : (c : ℕ) → c < 2 ^ 32 → bit_step c < 2 ^ 32
bit_lt c h = xor_lt 32 (c / 2) (c % 2 * generator) (omega arith) (omega arith)

eight_lt : (c : ℕ) → c < 2 ^ 32 → eight_steps c < 2 ^ 32
unfolding eight_steps
eight_lt c h = bit_lt _ (bit_lt _ (bit_lt _ (bit_lt _ (bit_lt _ (bit_lt _ (bit_lt _ (bit_lt c h)))))))

byte_lt : (c b : ℕ) → c < 2 ^ 32 → b < 256 → byte_step c b < 2 ^ 32
unfolding byte_step
byte_lt c b h k = eight_lt (bit_xor c b) (xor_lt 32 c b h (omega arith))

register_lt : (c : ℕ) (bs : List ℕ) → c < 2 ^ 32 → Bytes bs → register_after c bs < 2 ^ 32
register_lt c [] h k = h
register_lt c (b ∷ bs) h k = register_lt (byte_step c b) bs (byte_lt c b h (k 0)) (λ i. k (suc i))

pub crc_lt : (bs : List ℕ) → Bytes bs → crc_of bs < 2 ^ 32
crc_lt bs k = xor_lt 32 (register_after 0xffffffff bs) 0xffffffff (register_lt 0xffffffff bs (omega arith) k) (omega arith)

-- the same as Bytes, one by one
pub data Each : List ℕ → Type 0 where
  none : Each []
  more : {b : ℕ} {bs : List ℕ} → b < 256 → Each bs → Each (b ∷ bs)

pub each_is : (bs : List ℕ) → Each bs → Bytes bs
each_is [] none i = omega arith
each_is (b ∷ bs) (more h k) zero = h
each_is (b ∷ bs) (more h k) (suc i) = each_is bs k i

pub each_of : (bs : List ℕ) → Bytes bs → Each bs
each_of [] h = none
each_of (b ∷ bs) h = more (h 0) (each_of bs (λ i. h (suc i)))

pub each_both : (xs bs : List ℕ) → Each xs → Each bs → Each (xs ++ bs)
each_both [] bs none k = k
each_both (x ∷ xs) bs (more h l) k = more h (each_both xs bs l k)
