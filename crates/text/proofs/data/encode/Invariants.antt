use Rattle.std.proofs.Common.{◌≡◌, ◌++◌, drop, vec_items}
use Rattle.text.specs.Data.{encode}
use Rattle.text.proofs.data.encode.Given as goal

abbrev pub invariant-loop-byte : goal.invariant-loop-byte
invariant-loop-byte l = vec_items l.word ++ encode (drop l.byte-index l.bytes) ≡ encode l.bytes
