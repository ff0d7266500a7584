use Rattle.std.proofs.Common.{◌≡◌, ◌+◌, ◌-◌, ◌≤◌, length, drop, sym, ap, ◌∙◌, arith}
use Rattle.lent.proofs.Writes.{part_size, next_size, by_part, by_source}
use Rattle.std.proofs.lemmas.List.{drop-drop, length-drop}
use Rattle.lent.proofs.source.fill_from.Goals as goal

pub returns-then-wrote-first : goal.returns-then-wrote-first
returns-then-wrote-first g c =
    let w = c.fill-wrote.ensures in
    let size = part_size c.slot-at.result (c.slot-at.result + c.min-first.result - c.slot-at.result) c.args.ring.now (omega arith) c.told-ring in
    record {
      ring = by_part c.args.place c.slot-at.result _ c.fill-wrote.result (g.S.Source.rest c.args.source.now) c.args.ring.now c.fill-wrote.new.part (λ _. sym c.slot-at.ensures.at) w.part w.within.1 (omega arith) (omega arith) c.told-ring;
      rest = w.rest;
      within = (omega arith, w.within.1);
      all = (λ e. omega (arith, w.all e, size));
    }

pub returns : goal.returns
returns g c =
    let w = c.fill-wrote.ensures in
    let v = c.fill.ensures in
    let size = part_size c.slot-at.result (c.slot-at.result + c.min-first.result - c.slot-at.result) c.args.ring.now (omega arith) c.told-ring in
    let full : c.fill-wrote.result ≡ c.min-first.result = omega (arith, w.within.0, size) in
    let next = next_size c.args.place c.slot-at.result (c.slot-at.result + c.min-first.result - c.slot-at.result) c.fill-wrote.result (c.args.n - c.min-first.result) (g.S.Source.rest c.args.source.now) c.args.ring.now c.fill-wrote.new.part (λ _. sym c.slot-at.ensures.at) w.part w.within.1 (omega arith) (omega arith) c.told-ring (omega arith) in
    let more : c.fill.result ≤ c.args.n - c.min-first.result = omega (arith, v.within.0, next) in
    let left : length (g.S.Source.rest c.fill-wrote.new.self) ≡ length (g.S.Source.rest c.args.source.now) - c.fill-wrote.result = ap length w.rest ∙ length-drop c.fill-wrote.result (g.S.Source.rest c.args.source.now) in
    record {
      ring = by_source c.args.place c.slot-at.result _ c.fill-wrote.result (c.args.n - c.min-first.result) c.fill.result (g.S.Source.rest c.args.source.now) (g.S.Source.rest c.fill-wrote.new.self) c.args.ring.now
          c.fill-wrote.new.part c.fill.new.part c.slot-at.ensures.at (omega arith) (λ s. omega arith) (omega arith) (omega arith) w.within.1 more v.within.1 w.rest c.told-ring w.part v.part;
      rest = v.rest ∙ ap (drop c.fill.result) w.rest ∙ drop-drop c.fill.result c.fill-wrote.result (g.S.Source.rest c.args.source.now);
      within = (omega arith, omega (arith, v.within.1, w.within.1));
      all = (λ e. omega (arith, w.all e, v.all e, size, next));
    }
