-- Connections of the model that live in lanes.
use Rattle.std.specs.Prelude.{◌≡◌, ℕ, Bool, true, cond, List, [], ◌∷◌, Some, None, Option}
use Rattle.hold.specs.Conn.{Conn}
use Rattle.hold.specs.World.{gone}

-- Each connection has a lane, both lists having the latest first: P says what a lane has of a connection, Q what it has of one that is gone, of which something is left. Of one that is gone there may be nothing, and no lane.
pub data Housed (P Q : ℕ → Conn → Type 0) : List ℕ → List Conn → Type 0 where
  none : Housed P Q [] []
  forgot : {ls : List ℕ} {c : Conn} {cs : List Conn} → gone c.phase ≡ true → Housed P Q ls cs → Housed P Q ls (c ∷ cs)
  left : {l : ℕ} {ls : List ℕ} {c : Conn} {cs : List Conn} → gone c.phase ≡ true → Q l c → Housed P Q ls cs → Housed P Q (l ∷ ls) (c ∷ cs)
  held : {l : ℕ} {ls : List ℕ} {c : Conn} {cs : List Conn} → P l c → Housed P Q ls cs → Housed P Q (l ∷ ls) (c ∷ cs)

-- the first of some lanes that passes a test
abbrev pub seek : (ℕ → Bool) → List ℕ → Option ℕ
seek test [] = None
seek test (l ∷ ls) = cond (test l) (Some l) (seek test ls)
