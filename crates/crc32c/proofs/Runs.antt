-- The register by blocks of eight.
use Rattle.std.proofs.Common.{◌≡◌, ℕ, zero, suc, ◌+◌, ◌*◌, List, take, drop, fold, sym, refl, ap, ◌∙◌, arith, take-append-drop}
use Rattle.std.specs.Simd.{first_chunks}
use Rattle.std.proofs.lemmas.List.{drop-drop}
use Rattle.std.proofs.lemmas.List.Sums.{fold-append}
use Rattle.crc32c.specs.Crc.{byte_step, register_after}

pub by_blocks : (k c : ℕ) (bs : List ℕ) → register_after (fold register_after c (first_chunks 8 k bs)) (drop (k * 8) bs) ≡ register_after c bs
by_blocks zero c bs = refl
by_blocks (suc k) c bs =
    let d : ℕ = register_after c (take 8 bs) in
    let n : suc k * 8 ≡ 8 + k * 8 = omega arith in
    ap (register_after (fold register_after d (first_chunks 8 k (drop 8 bs)))) (ap (λ i. drop i bs) n ∙ sym (drop-drop (k * 8) 8 bs))
    ∙ by_blocks k d (drop 8 bs)
    ∙ sym (fold-append byte_step c (take 8 bs) (drop 8 bs))
    ∙ ap (register_after c) (take-append-drop 8 bs)
