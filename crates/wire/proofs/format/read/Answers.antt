use Rattle.std.proofs.Common.{◌≡◌, rules, arith}
use Rattle.wire.specs.Format.{decode}
use Rattle.wire.specs.Reading.{read_of}
use Rattle.wire.proofs.Trip.{was_written}
use Rattle.wire.proofs.format.read.Goals as goal

pub returns-clause-written : goal.returns-clause-written
returns-clause-written c =
    let e : read_of c.read_fields.result ≡ decode c.args.bytes.now = search rules in
    was_written c.args.bytes.now _ (λ i. omega (arith, c.type_inv.bytes i)) e
