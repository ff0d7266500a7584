-- How a program brings over all that was given: rounds of four moves, as long as the one that gave has something to say. Assumes nothing.
use Rattle.std.specs.Prelude.{◌≡◌, ℕ, zero, suc, ◌+◌, ◌*◌, ◌<◌, ◌≤◌, Bool, true, false, cond, ◌&&◌, T, List, [], ◌∷◌, ◌++◌, length, ◌==◌}
use Rattle.hold.specs.Packet.{Settings}
use Rattle.hold.specs.Conn.{Conn, Open}
use Rattle.hold.specs.World.{Who, Ev, end, other, is_open, by_tag, Found, NotThere, There, world}
use Rattle.hold.specs.Promise.{At, One, lives}
use Rattle.hold.specs.Self.{Self, Clock, Brings, Take, speaks, made, missing}

-- c, of end o, and d, of the other end, are one and live, after these events; c is to get what d's user gave
pub record Both (cfg : Settings) (es : List Ev) (o : Who) (c d : Conn) : Type 0 where
  pub at_c : At o (world cfg es) c
  pub at_d : At (other o) (world cfg es) d
  pub live_c : T (lives c.phase)
  pub live_d : T (lives d.phase)
  pub one : One c d

-- A round, the latest move first: o's user takes, d's clock says something, the latest packet comes to o, and what o said to it comes back. t and s are the tags of c and d.
-- If d is half it says yes, and what o says to that opens it; if it is open it says its due text, and o answers.
abbrev pub round_moves : Who → (t s k : ℕ) → List Self
round_moves o t s k = Brings (other o) 0 0 ∷ Brings o 0 0 ∷ Clock (other o) s ∷ Take o t k ∷ []

-- the rounds that are wanted: none once d has nothing to say; else one for each byte, one for the end, and one if d is half or does not know all that c has
abbrev pub left : Conn → Conn → ℕ
left c d = cond (speaks d d.phase) (missing c d + cond (is_open d.phase && d.upto == length c.got) 1 2) 0

-- after a round: the two are what they were, d's user gave nothing more, and fewer rounds are wanted
pub record Nearer (cfg : Settings) (es : List Ev) (o : Who) (c d : Conn) : Type 0 where
  pub c' : Conn
  pub d' : Conn
  pub both : Both cfg es o c' d'
  pub open_d : d'.phase ≡ Open
  pub mine_c : c'.mine ≡ c.mine
  pub mine_d : d'.mine ≡ d.mine
  pub given : d'.given ≡ d.given
  pub closed : d'.closed ≡ d.closed
  pub fewer : left c' d' < left c d

-- Each round of a d that has something to say makes six events at most, and fewer rounds are wanted after it. The user may take as little as it likes, if only there is then room for a byte.
abbrev pub RoundFalls : Type 0
RoundFalls =
    (cfg : Settings) → 0 < cfg.room → (es : List Ev) (o : Who) (c d : Conn) → Both cfg es o c d → speaks d d.phase ≡ true → (k : ℕ) → length c.got < c.taken + k + cfg.room →
    (length (made cfg es (round_moves o c.mine d.mine k)) ≤ 6) × Nearer cfg (made cfg es (round_moves o c.mine d.mine k) ++ es) o c d

-- A user that takes a byte or more, or all that there is, makes room for one.
abbrev pub TakeFrees : Type 0
TakeFrees =
    (cfg : Settings) → 0 < cfg.room → (es : List Ev) (o : Who) (c : Conn) → At o (world cfg es) c → (k : ℕ) →
    (0 < k → length c.got < c.taken + k + cfg.room) × (length c.got ≤ c.taken + k → length c.got < c.taken + k + cfg.room)

-- all that d's user gave came to c, with the end
abbrev pub HasAll : Conn → Conn → Type 0
HasAll c d = (c.got ≡ d.given) × (d.closed ≡ true → c.ended ≡ true)

-- Who lives and has nothing to say has brought over all.
abbrev pub SilentHas : Type 0
SilentHas = (cfg : Settings) (es : List Ev) (o : Who) (c d : Conn) → Both cfg es o c d → speaks d d.phase ≡ false → HasAll c d

-- whether the connection with this tag has something to say
abbrev pub speaks_in : Found → Bool
speaks_in NotThere = false
speaks_in (There d) = speaks d d.phase

-- rounds as long as d has something to say, and n at most
unfoldable pub drive : Settings → List Ev → (n : ℕ) → Who → (t s k : ℕ) → List Self
drive cfg es zero o t s k = []
drive cfg es (suc n) o t s k = cond (speaks_in (by_tag s (end (other o) (world cfg es)).conns)) (drive cfg (made cfg es (round_moves o t s k) ++ es) n o t s k ++ round_moves o t s k) []

-- If n is as many as are wanted, or more, they bring over all that was given; every event is counted.
abbrev pub DriveBrings : Type 0
DriveBrings =
    (cfg : Settings) → 0 < cfg.room → (es : List Ev) (o : Who) (c d : Conn) → Both cfg es o c d → (k n : ℕ) → 0 < k → left c d ≤ n →
    (length (made cfg es (drive cfg es n o c.mine d.mine k)) ≤ 6 * missing c d + 12) ×
    ((x : Conn) → At o (world cfg (made cfg es (drive cfg es n o c.mine d.mine k) ++ es)) x → x.mine ≡ c.mine → HasAll x d)
