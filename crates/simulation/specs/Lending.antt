-- What two sides end as, where a `&mut` to one of them is returned.
use Rattle.std.specs.Borrow.{Fml, Lends, MutBor, RattleType}
use Rattle.simulation.specs.Sides.{with_side}
use Rattle.simulation.specs.contracts.pair.Sides.{the_row}
use Rattle.simulation.specs.declared.pair.Side.{Side}
use Rattle.simulation.specs.declared.pair.Sides.{Sides}

abbrev pub LendsSide : (T : RattleType) → MutBor (Sides T.Denot) → Side → MutBor T.Denot → Fml
LendsSide T s side r = Lends (the_row T) T s r (with_side side s.now)
