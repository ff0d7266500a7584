use Rattle.std.proofs.Common.{◌≡◌, ◌/◌, ◌*◌, length, drop, fold, rules, ap, ◌∙◌}
use Rattle.std.specs.Simd.{first_chunks}
use Rattle.crc32c.specs.Crc.{register_after}
use Rattle.crc32c.proofs.Runs.{by_blocks}
use Rattle.crc32c.proofs.extend.Goals as goal

pub returns : goal.returns
returns c =
    let s = c.args.bytes.now in
    let k = length s / 8 in
    let front : c.fold-register.result ≡ fold register_after c.args.start (first_chunks 8 k s) = search rules in
    let back : c.run.result ≡ register_after c.fold-register.result (drop (k * 8) s) = search rules in
    back ∙ ap (λ r. register_after r (drop (k * 8) s)) front ∙ by_blocks k c.args.start s
