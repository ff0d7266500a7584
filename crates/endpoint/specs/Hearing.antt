-- Packets heard.
use Rattle.std.specs.Prelude.{◌≡◌, ℕ, Bool, true, cond, not, ◌&&◌, ◌||◌, length, is_some, None, Ok, Err, Option, Result, ◌==◌, nat_lt}
use Rattle.hold.specs.Code.{is_ask}
use Rattle.hold.specs.Packet as m
use Rattle.packet.specs.Packets.{sent}
use Rattle.packet.specs.Places.{beyond}
use Rattle.packet.specs.Sizes.{text_size}
use Rattle.packet.specs.declared.packet.Packet.{Packet}
use Rattle.table.specs.Search.{finds, has_room, is_there}
use Rattle.table.specs.declared.Wanted.TheVariants.{Peer}
use Rattle.endpoint.specs.Calls.{Refused}
use Rattle.endpoint.specs.Refusals.{number}
use Rattle.endpoint.specs.Steps.{Heard}
use Rattle.endpoint.specs.declared.Endpoint.{Endpoint}
use Rattle.endpoint.specs.declared.Refusal.{Refusal}

-- an ask that opens a connection
abbrev pub needs : Endpoint → m.Packet → Bool
needs x p = is_ask p.kind && (x.listens && not (is_some (finds (Peer p.from) x.table)))

-- a tag of 0: of who sent it, or of whom it is for, who in an ask is nobody yet
abbrev pub zero_tag : m.Packet → Bool
zero_tag p = p.from == 0 || (not (is_ask p.kind) && p.to == 0)

-- beyond what a stream can have
abbrev pub too_far : m.Packet → Bool
too_far p = beyond p.place p.upto p.edge

-- the first of these causes: too long, no tag, too far, no room, a tag that is there; the last two only where a connection is needed
abbrev pub cause : Bool → Bool → Bool → Bool → Bool → Bool → ℕ
cause long zero far needed room there = cond long 1 (cond zero 3 (cond far 4 (cond (needed && not room) 7 (cond (needed && there) 8 0))))

-- the number with which a packet is refused, a tag t being drawn for the connection that it may open; 0 where it is not
abbrev pub hear_number : Endpoint → m.Packet → ℕ → ℕ
hear_number x p t = cause (nat_lt text_size (length p.text)) (zero_tag p || (needs x p && t == 0)) (too_far p) (needs x p) (has_room x.table) (is_there t x.table)

-- an ask is heard, unless it opens a connection and there is no room for one
abbrev pub Asked : Endpoint → Endpoint → m.Packet → ℕ → Option Packet → Type 0
Asked x y p t r = (None ≡ finds (Peer p.from) x.table → x.listens ≡ true → has_room x.table ≡ true) → Heard x y (sent r) p m.Ask t

abbrev pub Refuses : Endpoint → m.Packet → ℕ → Result (Unit {0}) Refusal → Type 0
Refuses x p t (Ok u) = hear_number x p t ≡ 0
Refuses x p t (Err f) = number f ≡ hear_number x p t

abbrev pub HeardAs : Endpoint → Endpoint → m.Packet → ℕ → Result (Option Packet) Refusal → Type 0
HeardAs x y p t (Ok r) = (hear_number x p t ≡ 0) × Heard x y (sent r) p p.kind t
HeardAs x y p t (Err f) = Refused x y f (hear_number x p t)
