-- The same promise for any transport, however wide: what its users see is all that it speaks of. Assumes nothing.
use Rattle.std.specs.Prelude.{◌≡◌, ℕ, ◌+◌, ◌*◌, ◌^◌, ◌≤◌, Bool, true, false, ◌&&◌, T, ◌⊎◌, List, [], ◌∷◌, ◌++◌, length, drop, ◌==◌, nat_le, nat_lt}
use mathlib.Core.List.{Memᴰ}
use Rattle.hold.specs.Packet.{Settings}
use Rattle.hold.specs.Conn.{Conn, Last}
use Rattle.hold.specs.World.{Who, other, World, Ev, Hears, start, end, step, world}
use Rattle.hold.specs.Promise as promise
use Rattle.hold.specs.Code.{all_below}

-- What the users of one end see of one way: of a connection, or of one of its streams. end: where the other's end is, if that was heard.
pub record View : Type 0 where
  pub mine : ℕ
  pub theirs : ℕ
  pub stream : ℕ
  pub opened : Bool
  pub lives : Bool
  pub given : List ℕ
  pub closed : Bool
  pub got : List ℕ
  pub end : Last
  pub ended : Bool
  pub upto : ℕ
  pub all : Bool

-- A transport: its states, all that can happen to it, what the users see, which runs its net and its makers allow, which events are moves (no calls of users but that they take), and how many moves so many missing bytes may need.
pub record Transport : Type 1 where
  pub State : Type 0
  pub Event : Type 0
  pub start : State
  pub step : Event → State → State
  pub views : Who → State → List View
  pub allowed : List Event → Type 0
  pub moves : Event → Bool
  pub most : ℕ → ℕ

-- by events, the latest first
unfoldable pub after : (m : Transport) → List m.Event → m.State
after m [] = m.start
after m (e ∷ es) = m.step e (after m es)

abbrev pub Sees : (m : Transport) → Who → List m.Event → View → Type 0
Sees m o es v = Memᴰ v (m.views o (after m es))

abbrev pub OneWay : View → View → Type 0
OneWay c d = (c.theirs ≡ d.mine) × (d.theirs ≡ c.mine) × (c.stream ≡ d.stream)

-- what a user was given is a first part of what the other gave, and the end is told exactly when that was all and the end was heard
pub record Whole (m : Transport) (o : Who) (es : List m.Event) (c : View) : Type 0 where
  pub partner : View
  pub there : Sees m (other o) es partner
  pub one : OneWay c partner
  pub only : (e : View) → Sees m (other o) es e → e.mine ≡ c.theirs → e.stream ≡ c.stream → e ≡ partner
  pub rest : List ℕ
  pub first_part : c.got ++ rest ≡ partner.given
  pub end_of_all : c.ended ≡ true → (rest ≡ []) × (partner.closed ≡ true)
  pub end_heard : c.ended ≡ true → (q : ℕ) × (c.end ≡ Last.At q)
  pub end_true : (q : ℕ) → c.end ≡ Last.At q → (q ≡ length partner.given) × (partner.closed ≡ true)
  pub told : (q : ℕ) → c.end ≡ Last.At q → c.ended ≡ (q == length c.got)
  pub came : c.upto ≤ length partner.got
  pub all_came : c.all ≡ true → partner.ended ≡ true

abbrev pub Holding : Transport → Type 0
Holding m = (es : List m.Event) → m.allowed es → (o : Who) (c : View) → Sees m o es c → c.opened ≡ true → Whole m o es c

unfoldable pub only_moves : (m : Transport) → List m.Event → Bool
only_moves m [] = true
only_moves m (e ∷ es) = m.moves e && only_moves m es

-- from every state, as long as both live, some moves bring over all, as many at most as what is missing may need
abbrev pub NoDeadEnd : Transport → Type 0
NoDeadEnd m =
    (es : List m.Event) → m.allowed es → (o : Who) (c d : View) → Sees m o es c → Sees m (other o) es d → c.lives ≡ true → d.lives ≡ true → OneWay c d →
    (fs : List m.Event) × m.allowed (fs ++ es) × T (only_moves m fs) × (length fs ≤ m.most (length (drop (length c.got) d.given))) ×
    ((x : View) → Sees m o (fs ++ es) x → x.mine ≡ c.mine → x.stream ≡ c.stream → (x.got ≡ d.given) × (d.closed ≡ true → x.ended ≡ true))

-- No move gives or closes in a user's place: whatever is seen after one was seen before with the same given and closed, or is new and empty.
abbrev pub Quiet : Transport → Type 0
Quiet m =
    (e : m.Event) (es : List m.Event) → m.allowed (e ∷ es) → m.moves e ≡ true → (o : Who) (v : View) → Sees m o (e ∷ es) v →
    ((v.given ≡ []) × (v.closed ≡ false)) ⊎ ((u : View) × Sees m o es u × (u.mine ≡ v.mine) × (u.stream ≡ v.stream) × (u.given ≡ v.given) × (u.closed ≡ v.closed))

-- It is wider, and nothing else: the base's own runs are among its runs, and its users see there what the base's users see. Here the runs in which the net brings only the latest packet,
-- with numbers that fit any wider end: tags below 2 to the 32, bytes, places and sizes as a packet has them, fewer than 2 to the 31 bytes given in all. More, as far as its net allows.
abbrev pub view_of : Conn → View
view_of c = record { mine = c.mine; theirs = c.theirs; stream = 0; opened = c.opened; lives = promise.lives c.phase; given = c.given; closed = c.closed; got = c.got; end = c.end; ended = c.ended; upto = c.upto; all = c.all }

unfoldable pub views_of : List Conn → List View
views_of [] = []
views_of (c ∷ cs) = view_of c ∷ views_of cs

abbrev pub tag_fits : ℕ → Bool
tag_fits t = nat_lt t (2 ^ 32)

abbrev pub latest : Settings → Ev → Bool
latest cfg (Hears o i t) = i == 0 && tag_fits t
latest cfg (Ev.Listens o b) = true
latest cfg (Ev.Opens o t) = tag_fits t
latest cfg (Ev.Due o t) = true
latest cfg (Ev.Gives o t bs) = all_below 256 bs
latest cfg (Ev.Closes o t) = true
latest cfg (Ev.Takes o t k) = true
latest cfg (Ev.Sends o t p k) = nat_le p (2 ^ 31) && nat_le k cfg.size
latest cfg (Ev.Breaks o t) = true
latest cfg (Ev.Forgets o t) = true

abbrev pub given_in : Ev → ℕ
given_in (Hears o i t) = 0
given_in (Ev.Listens o b) = 0
given_in (Ev.Opens o t) = 0
given_in (Ev.Due o t) = 0
given_in (Ev.Gives o t bs) = length bs
given_in (Ev.Closes o t) = 0
given_in (Ev.Takes o t k) = 0
given_in (Ev.Sends o t p k) = 0
given_in (Ev.Breaks o t) = 0
given_in (Ev.Forgets o t) = 0

unfoldable pub all_latest : Settings → List Ev → Bool
all_latest cfg [] = true
all_latest cfg (e ∷ es) = latest cfg e && all_latest cfg es

unfoldable pub all_given : List Ev → ℕ
all_given [] = 0
all_given (e ∷ es) = given_in e + all_given es

abbrev pub orderly : Settings → List Ev → Bool
orderly cfg es = all_latest cfg es && nat_lt (all_given es) (2 ^ 31)

-- an event of the base may be several of the wider transport, the latest first
unfoldable pub mapped : (m : Transport) → (Ev → List m.Event) → List Ev → List m.Event
mapped m f [] = []
mapped m f (e ∷ es) = f e ++ mapped m f es

pub record Wider (m : Transport) (cfg : Settings) : Type 0 where
  pub event : Ev → List m.Event
  pub runs : (es : List Ev) → T (orderly cfg es) → m.allowed (mapped m event es)
  pub sees : (es : List Ev) → T (orderly cfg es) → (o : Who) → m.views o (after m (mapped m event es)) ≡ views_of (end o (world cfg es)).conns
  pub no_call : (e : Ev) → only_moves m (event e) ≡ true → T (promise.only_moves (e ∷ []))

-- THE PROMISE of every wider end. (A transport that does nothing, or allows nothing, isn't wider than the base.)
abbrev pub MainFor : Settings → Transport → Type 0
MainFor cfg m = Wider m cfg × (Holding m × (NoDeadEnd m × Quiet m))

-- the base itself, as such a transport
abbrev pub base : Settings → Transport
base cfg = record { State = World; Event = Ev; start = start; step = step cfg; views = λ o w. views_of (end o w).conns; allowed = λ _. Unit {0}; moves = λ e. promise.only_moves (e ∷ []); most = λ n. 6 * n + 12 }
