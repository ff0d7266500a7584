-- Moves that ends make by themselves, and the rounds that bring over all that was given.
use Rattle.std.specs.Prelude.{◌≡◌, ℕ, ◌+◌, ◌-◌, ◌*◌, ◌^◌, ◌≤◌, min, true, List, [], ◌∷◌, ◌++◌, length, Some, None, Ok, Err, Option, Result}
use mathlib.Core.List.{Memᴰ}
use Rattle.hold.specs.Drive.{drive}
use Rattle.hold.specs.Packet as m
use Rattle.hold.specs.Self.{Self, made, makes}
use Rattle.hold.specs.World.{Ev, Hears, Who, World, by_tag, end, other, world}
use Rattle.packet.specs.Packets.{packet}
use Rattle.packet.specs.Sizes.{capacity}
use Rattle.packet.specs.declared.packet.Packet.{Packet}
use Rattle.ledger.specs.Books.{accounts, view_of}
use Rattle.ledger.specs.Sentence.{Account, One}
use Rattle.ledger.specs.declared.record.View.{View}
use Rattle.party.specs.declared.Fault.{Fault}
use Rattle.simulation.specs.Shows.{Does, Runs, Shows, net_of, net_to, party_of}
use Rattle.simulation.specs.declared.pair.Pair.{Pair}

-- q stands for a run that goes on from p's
abbrev pub Goes : Pair → Pair → Type 0
Goes p q = (cfg : m.Settings) (es : List Ev) → Shows cfg p (world cfg es) → (fs : List Ev) × Shows cfg q (world cfg (fs ++ es))

-- the latest packet of a net, which is the last
abbrev pub Latest : List Packet → Option Packet → Type 0
Latest net None = net ≡ []
Latest net (Some p) = (qs : List m.Packet) × (net_of net ≡ packet p ∷ qs)

-- the latest packet came to a side and was heard; where that was refused nothing happened
abbrev pub HeardLatest : Pair → Pair → Who → Result Packet Fault → Type 0
HeardLatest p q o (Ok x) = Latest (net_to o p) (Some x) × Does p q (λ _. Hears o 0 0 ∷ [])
HeardLatest p q o (Err f) = Does p q (λ _. [])

-- the connection of a tag, as it is to be seen
abbrev pub Seen : Pair → Who → ℕ → Option View → Type 0
Seen p o t r = (cfg : m.Settings) (w : World) → Shows cfg p w → r ≡ view_of (by_tag t (end o w).conns)

abbrev pub AtMost : ℕ → Result ℕ Fault → Type 0
AtMost k (Ok n) = n ≤ k
AtMost k (Err f) = Unit {0}

-- one move, which makes n events
abbrev pub Made1 : Pair → Pair → Self → Result ℕ Fault → Type 0
Made1 p q s (Ok n) = (cfg : m.Settings) (es : List Ev) → Shows cfg p (world cfg es) → Shows cfg q (world cfg (makes cfg (world cfg es) s ++ es)) × (length (makes cfg (world cfg es) s) ≡ n)
Made1 p q s (Err f) = Goes p q

-- moves, which make n events
abbrev pub MadeAll : Pair → Pair → List Self → Result ℕ Fault → Type 0
MadeAll p q ms (Ok n) = (cfg : m.Settings) (es : List Ev) → Shows cfg p (world cfg es) → Shows cfg q (world cfg (made cfg es ms ++ es)) × (length (made cfg es ms) ≡ n)
MadeAll p q ms (Err f) = Goes p q

-- the events after rounds, as long as the other has something to say and n at most
abbrev pub driven_to : m.Settings → List Ev → ℕ → Who → ℕ → ℕ → List Ev
driven_to cfg es n o t s = made cfg es (drive cfg es n o t s capacity) ++ es

-- such rounds, and how many moves they took
abbrev pub Driven : Pair → Pair → ℕ → Who → ℕ → ℕ → Result ℕ Fault → Type 0
Driven p q n o t s (Ok k) = (cfg : m.Settings) (es : List Ev) → Shows cfg p (world cfg es) → Shows cfg q (world cfg (driven_to cfg es n o t s)) × (k ≡ min (2 ^ 64 - 1) (length (made cfg es (drive cfg es n o t s capacity))))
Driven p q n o t s (Err f) = Goes p q

-- rounds that were made already, of n: i are left to be made
abbrev pub UpTo : Pair → Pair → ℕ → ℕ → Who → ℕ → ℕ → ℕ → Type 0
UpTo p q n i o t s k = (cfg : m.Settings) (es : List Ev) → Shows cfg p (world cfg es) →
    (fs : List Ev) × Shows cfg q (world cfg (fs ++ es)) × (driven_to cfg es n o t s ≡ driven_to cfg (fs ++ es) i o t s) × (k ≡ min (2 ^ 64 - 1) (length fs))

-- What users see when all that was given on a connection was brought over to the one with the tag t: these are the accounts of its side, others those of the other, and after those of its side afterwards.
-- All bytes that the other gave came, and the end if there is one; and that took at most 6 n + 12 moves, n being the bytes given and not got.
abbrev pub Brought : List Account → List Account → List Account → ℕ → ℕ → Type 0
Brought these others after t k = (a b x : Account) → Memᴰ a these → Memᴰ b others → Memᴰ x after → a.tag ≡ t → x.tag ≡ t → One a b →
    (k ≤ 6 * (length b.given - a.arrived) + 12) × (x.arrived ≡ length b.given) × (b.closed ≡ true → x.told ≡ true)

-- the same of a pair, for every run for which it stands
abbrev pub Carried : Pair → Pair → Who → ℕ → Result ℕ Fault → Type 0
Carried p q o t (Ok k) = Goes p q × (Runs p → Brought (accounts (party_of o p).book) (accounts (party_of (other o) p).book) (accounts (party_of o q).book) t k)
Carried p q o t (Err f) = Goes p q

-- what users see of it, if it was not refused
abbrev pub BroughtBy : Pair → Pair → Who → ℕ → Result ℕ Fault → Type 0
BroughtBy p q o t (Ok k) = Brought (accounts (party_of o p).book) (accounts (party_of (other o) p).book) (accounts (party_of o q).book) t k
BroughtBy p q o t (Err f) = Unit {0}
