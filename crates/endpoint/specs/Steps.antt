-- What the code does is a step of the model's world.
use Rattle.std.specs.Prelude.{◌≡◌, ℕ, false, List, ◌++◌}
use Rattle.hold.specs.Packet.{Kind, Packet}
use Rattle.hold.specs.World.{Ev, Who, World, coming_to, end, is_in, on_kind, other, step}
use Rattle.endpoint.specs.Stands.{Stands, cfg}
use Rattle.endpoint.specs.declared.Endpoint.{Endpoint}

-- y stands for the end o after a step, and out is what that step sent; the other end, and what comes from it, are as they were
pub record After (y : Endpoint) (out : List Packet) (o : Who) (before after : World) : Type 0 where
  pub stands : Stands y (end o after)
  pub sends : coming_to (other o) after ≡ out ++ coming_to (other o) before
  pub far : end (other o) after ≡ end (other o) before
  pub back : coming_to o after ≡ coming_to o before

-- From x to y is the step e, for every world in which x stands for the end o. Settings never change.
pub record Steps (x y : Endpoint) (out : List Packet) (e : Who → Ev) : Type 0 where
  pub settings : y.settings ≡ x.settings
  pub world : (o : Who) (w : World) → Stands x (end o w) → After y out o w (step (cfg x) (e o) w)

-- the same for a packet heard as one of a kind, with a tag drawn for it
pub record Heard (x y : Endpoint) (out : List Packet) (p : Packet) (k : Kind) (t : ℕ) : Type 0 where
  pub settings : y.settings ≡ x.settings
  pub world : (o : Who) (w : World) → Stands x (end o w) → is_in t w.drawn ≡ false → After y out o w (on_kind (cfg x) o p t k w)
