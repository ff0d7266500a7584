-- The model's packet that a packet of the code is.
use Rattle.std.specs.Prelude.{◌≡◌, ℕ, ◌<◌, ◌≤◌, List, [], ◌∷◌, take, Some, None, Option, MatchOption}
use Rattle.hold.specs.Packet as m
use Rattle.packet.specs.declared.packet.Kind.{Kind}
use Rattle.packet.specs.declared.packet.Kind.TheVariants.{Ask, Yes, Text, Bye}
use Rattle.packet.specs.declared.packet.Head.{Head}
use Rattle.packet.specs.declared.packet.Packet.{Packet}
use Rattle.packet.specs.declared.packet.PacketRef.{PacketRef}
use Rattle.packet.specs.Sizes.{text_size}

abbrev pub kind_of : Kind → m.Kind
kind_of Ask = m.Ask
kind_of Yes = m.Yes
kind_of Text = m.Text
kind_of Bye = m.Bye

-- a head with a text
abbrev pub packet_of : Head → List ℕ → m.Packet
packet_of p text = record { kind = kind_of p.kind; from = p.from; to = p.to; place = p.place; text = text; last = p.last; upto = p.upto; all = p.all; edge = p.edge }

abbrev pub packet : Packet → m.Packet
packet p = packet_of p.head (take p.count p.text)

abbrev pub packet_in : PacketRef → m.Packet
packet_in p = packet_of p.head p.text.now

-- the same packet with its text as a slice, or none, exactly where the count is beyond the buffer
abbrev pub Viewed : Packet → Option PacketRef → Type 0
Viewed p r = MatchOption r (text_size < p.count) (λ v. (p.count ≤ text_size) × (v.head ≡ p.head) × (v.text.now ≡ take p.count p.text))

-- what goes out
abbrev pub sent : Option Packet → List m.Packet
sent None = []
sent (Some p) = packet p ∷ []
