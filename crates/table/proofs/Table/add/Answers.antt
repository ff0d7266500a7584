use Rattle.std.proofs.Common.{length, ap, arith}
use Rattle.lanes.specs.Used.{used}
use Rattle.lanes.proofs.Orders.{length_front}
use Rattle.table.specs.Search.{at, is_gone}
use Rattle.table.proofs.Searches.{eldest-finds, length_without}
use Rattle.table.proofs.Table.add.Goals.{then-count-eq-LANES+in_ok-oldest, else-count-eq-LANES}
use Rattle.table.proofs.Table.add.Goals as goal

-- there is a free lane, so the lane is given
pub returns-in_err-lane : goal.returns-in_err-lane
returns-in_err-lane c =
    let x = c.args.self.now in
    let n = length_front x.lanes.count x.lanes.order in
    let full = c.in_err-lane.ensures in
    elim c.if-count-eq-LANES.branch [
      | then-count-eq-LANES+in_ok-oldest w ↦
          let same = ap (λ s. length (used s.1.1.0)) w.self-is in
          let found = eldest-finds (λ k. is_gone (at x k)) w.in_ok-oldest.oldest (used x.lanes) w.in_ok-oldest.ensures in
          absurd (omega (arith, full.1, same, ap length w.remove.ensures, length_without w.in_ok-oldest.oldest (used x.lanes) found.0, n, x.lanes.few))
      | else-count-eq-LANES w ↦ let same = ap (λ s. length (used s.1.1.0)) w.self-is in absurd (omega (arith, full.1, same, n, w.if-count-eq-LANES.false))
    ]
