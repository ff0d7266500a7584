-- The byte that stands for a kind, and its name.
use Rattle.std.specs.Prelude.{◌≡◌, ℕ, codes, cond, List, Some, None, Option, Result, ◌==◌, MatchResult}
use Rattle.hold.specs.Packet as m
use Rattle.packet.specs.declared.packet.Kind.{Kind}
use Rattle.packet.specs.declared.packet.Kind.TheVariants.{Ask, Yes, Text, Bye}
use Rattle.packet.specs.declared.packet.UnknownKind.{UnknownKind}

abbrev pub kind_number : m.Kind → ℕ
kind_number m.Ask = 1
kind_number m.Yes = 2
kind_number m.Text = 3
kind_number m.Bye = 4

abbrev pub kind_in : ℕ → Option Kind
kind_in b = cond (b == 1) (Some Ask) (cond (b == 2) (Some Yes) (cond (b == 3) (Some Text) (cond (b == 4) (Some Bye) None)))

-- the kind that a byte stands for, or the byte that stands for none
abbrev pub KindIn : ℕ → Result Kind UnknownKind → Type 0
KindIn b r = MatchResult r (λ k. Some k ≡ kind_in b) (λ e. (e.0 ≡ b) × (None ≡ kind_in b))

abbrev pub kind_name : Kind → List ℕ
kind_name Ask = codes "ask"
kind_name Yes = codes "yes"
kind_name Text = codes "text"
kind_name Bye = codes "bye"
