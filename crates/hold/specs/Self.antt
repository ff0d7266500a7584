-- That it never comes to a stand by what ends really do by themselves, and not only by what they may do. Assumes nothing.
use Rattle.std.specs.Prelude.{◌≡◌, ℕ, zero, suc, ◌+◌, ◌*◌, ◌<◌, ◌≤◌, Bool, true, false, cond, not, ◌&&◌, T, List, [], ◌∷◌, ◌++◌, length, drop, ◌==◌}
use Rattle.hold.specs.Packet.{Settings, Kind, Ask, Yes, Text, Bye, Packet}
use Rattle.hold.specs.Conn.{Conn, Phase, Asked, Half, Open, Gone}
use Rattle.hold.specs.World.{Who, World, Ev, Due, Takes, Sends, Hears, end, other, coming_to, is_open, is_asked, by_tag, Found, NotThere, There, step, world}
use Rattle.hold.specs.Promise.{At, One, lives}
use Rattle.hold.specs.Code.{owes, wants_answer}

-- Clock: the clock of a connection says that something is due; Brings: the net brings the packet at this place to this end, with this tag drawn for it; Take: the user takes so many bytes.
pub data Self : Type 0 where
  Clock : Who → (tag : ℕ) → Self
  Brings : Who → (which draws : ℕ) → Self
  Take : Who → (tag k : ℕ) → Self

-- whose clock says something: one that asks, one that is half, and an open one that owes something. An open one that owes nothing is silent
abbrev pub speaks : Conn → Phase → Bool
speaks c Asked = true
speaks c Half = true
speaks c Open = owes c
speaks c Gone = false

abbrev pub on_clock : Who → Found → List Ev
on_clock o NotThere = []
on_clock o (There c) = cond (speaks c c.phase) (Due o c.mine ∷ []) []

abbrev pub is_yes : Kind → Bool
is_yes Ask = false
is_yes Yes = true
is_yes Text = false
is_yes Bye = false

-- What the connection that a packet was for says at once, as it is after the hearing. To a text with bytes or last: its answer, which has bytes only as far as there is room.
-- To a yes: what is due, so that the other opens too. To nothing else.
abbrev pub on_hearing : Settings → Who → Packet → Found → List Ev
on_hearing cfg o p NotThere = []
on_hearing cfg o p (There c) = cond (not (is_asked c.phase) && c.theirs == p.from)
    (cond (wants_answer p) (Sends o c.mine c.upto cfg.size ∷ []) (cond (is_yes p.kind && is_open c.phase) (Due o c.mine ∷ []) [])) []

-- the same for the packet at a place of those that come, with the connections as they are after the hearing
unfoldable pub on_nth : Settings → Who → ℕ → List Packet → List Conn → List Ev
on_nth cfg o i [] cs = []
on_nth cfg o zero (p ∷ ps) cs = on_hearing cfg o p (by_tag p.to cs)
on_nth cfg o (suc i) (p ∷ ps) cs = on_nth cfg o i ps cs

-- the events that a move makes in a world, the latest first
abbrev pub makes : Settings → World → Self → List Ev
makes cfg w (Clock o t) = on_clock o (by_tag t (end o w).conns)
makes cfg w (Brings o i t) = on_nth cfg o i (coming_to o w) (end o (step cfg (Hears o i t) w)).conns ++ (Hears o i t ∷ [])
makes cfg w (Take o t k) = Takes o t k ∷ []

-- all events that moves make after the events es; the latest move first, as the latest event
unfoldable pub made : Settings → List Ev → List Self → List Ev
made cfg es [] = []
made cfg es (m ∷ ms) = makes cfg (world cfg (made cfg es ms ++ es)) m ++ made cfg es ms

-- the bytes given and not got
abbrev pub missing : Conn → Conn → ℕ
missing c d = length (drop (length c.got) d.given)

-- As long as both live, what ends do by themselves brings over all that was given, and every event that it makes is counted.
abbrev pub NoStandSelf : Type 0
NoStandSelf =
    (cfg : Settings) → 0 < cfg.room → (es : List Ev) (o : Who) (c d : Conn) → At o (world cfg es) c → At (other o) (world cfg es) d → T (lives c.phase) → T (lives d.phase) → One c d →
    (ms : List Self) × (length (made cfg es ms) ≤ 6 * missing c d + 12) ×
    ((x : Conn) → At o (world cfg (made cfg es ms ++ es)) x → x.mine ≡ c.mine → (x.got ≡ d.given) × (d.closed ≡ true → x.ended ≡ true))
