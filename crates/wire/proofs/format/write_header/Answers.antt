use Rattle.std.proofs.Common.{◌≡◌, [], ◌∷◌}
use Rattle.packet.specs.Packets.{kind_of}
use Rattle.packet.specs.Kinds.{kind_number}
use Rattle.wire.specs.Format.{flags_of}
use Rattle.wire.proofs.Behind.{nothing, step}
use Rattle.wire.proofs.format.write_header.Goals as goal

pub returns-clause-bytes : goal.returns-clause-bytes
returns-clause-bytes c =
    let p = c.args.p.head in
    let two : c.into.result ∷ c.flags_of.result ∷ [] ≡ kind_number (kind_of p.kind) ∷ flags_of p.last p.all ∷ [] = cc in
    let h1 = step (nothing c.args.out.now) two c.put.ensures.put in
    let h2 = step h1 c.to_be_bytes.ensures c.put-2.ensures.put in
    let h3 = step h2 c.to_be_bytes-2.ensures c.put-3.ensures.put in
    let h4 = step h3 c.to_be_bytes-3.ensures c.put-4.ensures.put in
    let h5 = step h4 c.to_be_bytes-4.ensures c.put-5.ensures.put in
    let h6 = step h5 c.to_be_bytes-5.ensures c.put-6.ensures.put in
    let h7 = step h6 c.to_be_bytes-6.ensures c.put-7.ensures.put in
    h7.is
