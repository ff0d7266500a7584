use Rattle.text.proofs.Octets.{encode_more, encode_all}
use Rattle.text.proofs.data.encode.Goals as goal

pub loop-byte-preserved : goal.loop-byte-preserved
loop-byte-preserved c = encode_more _ _ _ _ c.loop-byte.invariant _ c.loop-byte-test.true c.in_ok-push_octet.ensures

pub returns : goal.returns
returns c = encode_all _ _ _ _ c.loop-byte.invariant c.loop-byte-test.false
