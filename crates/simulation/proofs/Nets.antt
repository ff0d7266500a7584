-- Packets put into a net, and read from it.
use Rattle.std.proofs.Common.{◌≡◌, ℕ, ◌-◌, ◌<◌, List, [], ◌∷◌, ◌++◌, map, reverse, length, get_or, Some, Option, sym, ap, ◌∙◌, arith}
use Rattle.std.proofs.lemmas.List.{get_or-map, get_or-reverse, length-map, length-reverse, reverse-append}
use Rattle.hold.specs.Packet as m
use Rattle.packet.specs.Packets.{packet, sent}
use Rattle.packet.specs.declared.packet.Packet.{Packet}
use Rattle.simulation.specs.Shows.{net_of}

pub net_push : (xs ys : List Packet) (q : Packet) (p : Option Packet) → p ≡ Some q → ys ≡ xs ++ q ∷ [] → net_of ys ≡ sent p ++ net_of xs
net_push xs ys q p e g = ap net_of g ∙ ap (map packet) (reverse-append xs (q ∷ [])) ∙ sym (ap (λ z. sent z ++ net_of xs) e)

-- the packet at a place is found from the latest
pub net_at : (xs : List Packet) (i : ℕ) (d : Packet) (e : m.Packet) → i < length xs → get_or (net_of xs) (length xs - 1 - i) e ≡ packet (get_or xs i d)
net_at xs i d e l = get_or-map packet (reverse xs) (length xs - 1 - i) d e (omega (arith, l, length-reverse xs)) ∙ ap packet (get_or-reverse xs (length xs - 1 - i) d (omega (arith, l)) ∙ ap (λ k. get_or xs k d) (let q : length xs - 1 - (length xs - 1 - i) ≡ i = omega (arith, l) in q))

pub net_length : (xs : List Packet) → length (net_of xs) ≡ length xs
net_length xs = length-map (reverse xs) packet ∙ length-reverse xs
