-- What the calls of a user do and answer.
use Rattle.std.specs.Prelude.{◌≡◌, ℕ, ◌<◌, min, true, false, cond, not, ◌&&◌, List, [], ◌∷◌, length, take, Some, None, Ok, Err, Option, Result, ◌==◌, nat_le, nat_lt}
use mathlib.Core.List.{Memᴰ}
use Rattle.hold.specs.Conn.{Conn}
use Rattle.hold.specs.World.{Breaks, Closes, End, Forgets, Found, Gives, NotThere, Opens, Takes, There, Who, World, added, by_tag, end, gone, is_in, step}
use Rattle.packet.specs.Packets.{packet, sent}
use Rattle.packet.specs.declared.packet.Packet.{Packet}
use Rattle.lent.specs.Sending.{free, most}
use Rattle.connection.specs.Stand.{Drained, Fresh, Rings, Stand1, Took}
use Rattle.connection.specs.declared.connection.Connection.{Connection}
use Rattle.lanes.specs.Used.{used}
use Rattle.table.specs.Grows.{less}
use Rattle.table.specs.Search.{at, finds, has_room, is_there, lane_of}
use Rattle.table.specs.declared.Wanted.TheVariants.{Gone}
use Rattle.endpoint.specs.Refusals.{number}
use Rattle.endpoint.specs.Stands.{Stands, cfg, lent}
use Rattle.endpoint.specs.Steps.{After, Steps}
use Rattle.endpoint.specs.declared.Endpoint.{Endpoint}
use Rattle.endpoint.specs.declared.Refusal.{Refusal}
use Rattle.endpoint.specs.declared.Refusal.TheVariants as refusal

-- refused with this number, and nothing changes
abbrev pub Refused : Endpoint → Endpoint → Refusal → ℕ → Type 0
Refused x y f n = (number f ≡ n) × (y ≡ x)

-- a lane that was found, or the refusal where none was
abbrev pub InLaneOf : Option ℕ → Result ℕ Refusal → Type 0
InLaneOf found (Ok l) = (Some l ≡ found) × (l < 16)
InLaneOf found (Err f) = (None ≡ found) × (f ≡ refusal.NotThere)

-- one connection more, in memory made ready for it; or there is no room, and nothing changes
abbrev pub Joined : Endpoint → Endpoint → Connection → Result (Unit {0}) Refusal → Type 0
Joined x y z (Ok u) = (y.settings ≡ x.settings) × ((e : End) (c : Conn) → Stands x e → ((mem : Rings) → Fresh mem → Stand1 (cfg x) z mem c) → Stands y (added c e))
Joined x y z (Err f) = (f ≡ refusal.Full) × (has_room x.table ≡ false) × (y ≡ x)

-- the number with which open is refused; 0 where it is not
abbrev pub open_number : Endpoint → ℕ → ℕ
open_number x t = cond (t == 0) 3 (cond (not (has_room x.table)) 7 (cond (is_there t x.table) 8 0))

-- a connection opened, with a tag drawn for it
pub record OpenedBy (x y : Endpoint) (t : ℕ) (p : Packet) : Type 0 where
  pub settings : y.settings ≡ x.settings
  pub world : (o : Who) (w : World) → Stands x (end o w) → is_in t w.drawn ≡ false → After y (packet p ∷ []) o w (step (cfg x) (Opens o t) w)

abbrev pub Opened : Endpoint → Endpoint → ℕ → Result Packet Refusal → Type 0
Opened x y t (Ok p) = (open_number x t ≡ 0) × OpenedBy x y t p
Opened x y t (Err f) = Refused x y f (open_number x t)

-- the number with which a call for a tag is refused, by what the model finds, is n
abbrev pub Numbered : Endpoint → ℕ → (Found → ℕ) → ℕ → Type 0
Numbered x tag n k = (e : End) → Stands x e → n (by_tag tag e.conns) ≡ k

-- refused by what the model finds
abbrev pub RefusedFor : Endpoint → Endpoint → ℕ → (Found → ℕ) → Refusal → Type 0
RefusedFor x y tag n f = Numbered x tag n (number f) × (y ≡ x)

abbrev pub close_number : Found → ℕ
close_number NotThere = 5
close_number (There c) = cond c.closed 6 0

abbrev pub Finished : Endpoint → Endpoint → ℕ → Result (Unit {0}) Refusal → Type 0
Finished x y tag (Ok u) = Numbered x tag close_number 0 × Steps x y [] (λ o. Closes o tag)
Finished x y tag (Err f) = RefusedFor x y tag close_number f

abbrev pub give_number : List ℕ → Found → ℕ
give_number bs NotThere = 5
give_number bs (There c) = cond c.closed 6 (cond (nat_le most (length c.given) && nat_lt 0 (length bs)) 9 0)

-- the first n of some bytes given, as many as have room
pub record GaveSome (x y : Endpoint) (tag : ℕ) (bs : List ℕ) (n : ℕ) : Type 0 where
  pub number : Numbered x tag (give_number bs) 0
  pub steps : Steps x y [] (λ o. Gives o tag (take n bs))
  pub count : (e : End) → Stands x e → (c : Conn) → by_tag tag e.conns ≡ There c → n ≡ min (length bs) (free (length c.given) c.upto)

abbrev pub Gave : Endpoint → Endpoint → ℕ → List ℕ → Result ℕ Refusal → Type 0
Gave x y tag bs (Ok n) = GaveSome x y tag bs n
Gave x y tag bs (Err f) = RefusedFor x y tag (give_number bs) f

abbrev pub break_number : Found → ℕ
break_number NotThere = 5
break_number (There c) = 0

abbrev pub Broken : Endpoint → Endpoint → ℕ → Result (Option Packet) Refusal → Type 0
Broken x y tag (Ok r) = Numbered x tag break_number 0 × Steps x y (sent r) (λ o. Breaks o tag)
Broken x y tag (Err f) = RefusedFor x y tag break_number f

-- n bytes of what is left of a connection that is gone, which has this tag
pub record TookLeft (x y : Endpoint) (tag : ℕ) (before out : List ℕ) (n : ℕ) (e : End) : Type 0 where
  pub lane : ℕ
  pub found : Some lane ≡ finds (Gone tag) x.table
  pub conn : Conn
  pub there : Memᴰ conn e.conns
  pub gone : gone conn.phase ≡ true
  pub mine : conn.mine ≡ tag
  pub took : Drained (cfg x) (at x.table lane) (at y.table lane) (lent y lane) conn before out n

-- n bytes taken, which stand at the front of out; of a connection that is gone too, for which the model has no step
pub record TookSome (x y : Endpoint) (tag : ℕ) (before out : List ℕ) (n : ℕ) : Type 0 where
  pub steps : Steps x y [] (λ o. Takes o tag (length before))
  pub lives : (e : End) → Stands x e → (c : Conn) → by_tag tag e.conns ≡ There c → Took c before out n
  pub gone : (e : End) → Stands x e → by_tag tag e.conns ≡ NotThere → TookLeft x y tag before out n e

abbrev pub Taken : Endpoint → Endpoint → ℕ → List ℕ → List ℕ → Result ℕ Refusal → Type 0
Taken x y tag before out (Ok n) = TookSome x y tag before out n
Taken x y tag before out (Err f) = (number f ≡ 5) × (is_there tag x.table ≡ false) × (y ≡ x) × (out ≡ before)

abbrev pub Forgotten : Endpoint → Endpoint → ℕ → Result (Unit {0}) Refusal → Type 0
Forgotten x y tag (Ok u) = (is_there tag x.table ≡ true) × (used y.table.lanes ≡ less (lane_of tag x.table) (used x.table.lanes)) × Steps x y [] (λ o. Forgets o tag)
Forgotten x y tag (Err f) = (number f ≡ 5) × (is_there tag x.table ≡ false) × (y ≡ x)
