-- The two sides.
use Rattle.simulation.specs.declared.pair.Side.{Side}
use Rattle.simulation.specs.declared.pair.Side.TheVariants.{Left, Right}
use Rattle.simulation.specs.declared.pair.Sides.{Sides}

abbrev pub other_side : Side → Side
other_side Left = Right
other_side Right = Left

abbrev pub of_side : {T : Type 0} → Side → Sides T → T
of_side Left x = x.left
of_side Right x = x.right

-- the same with one of them set
abbrev pub with_side : {T : Type 0} → Side → Sides T → T → Sides T
with_side Left x y = record x { left = y }
with_side Right x y = record x { right = y }
