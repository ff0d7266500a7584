-- It never comes to a stand, for whoever moves by the rules: enough that a due text can be brought in so many moves, and that a user can take. Assumes nothing.
use Rattle.std.specs.Prelude.{◌≡◌, ℕ, ◌+◌, ◌*◌, ◌<◌, ◌≤◌, Bool, true, false, ◌&&◌, T, List, [], ◌∷◌, ◌++◌, length, drop}
use Rattle.hold.specs.Packet.{Settings}
use Rattle.hold.specs.Conn.{Conn, Open, Last}
use Rattle.hold.specs.World.{Who, World, start, other}
use Rattle.hold.specs.Promise.{At, One, lives}
use Rattle.hold.specs.Rules.{Chain}

-- A system with events of a type E: the world that a run shows, which runs there are, and which events are moves (no calls of users but that they take). Each run goes by the rules.
pub record System (cfg : Settings) (E : Type 0) : Type 0 where
  pub seen : List E → World
  pub allowed : List E → Bool
  pub move : E → Bool
  pub sound : (es : List E) → T (allowed es) → Chain cfg start (seen es)

-- only such events
unfoldable pub only : {E : Type 0} → (E → Bool) → List E → Bool
only f [] = true
only f (e ∷ es) = f e && only f es

module _ {cfg : Settings} {E : Type 0} (s : System cfg E) where
  -- a run that goes on from another by at most n moves
  pub record Reach (n : ℕ) (es gs : List E) : Type 0 where
    pub by : List E
    pub is : by ++ es ≡ gs
    pub moves : only s.move by ≡ true
    pub count : length by ≤ n
    pub ok : T (s.allowed gs)

  -- two that are one, both live, the first open
  pub record Pair (es : List E) (o : Who) (c d : Conn) : Type 0 where
    pub ok : T (s.allowed es)
    pub at_c : At o (s.seen es) c
    pub at_d : At (other o) (s.seen es) d
    pub open_c : c.phase ≡ Open
    pub live_d : T (lives d.phase)
    pub one : One c d

-- b hears a's due text, or what says as much, and is then d: it is open and as long as before or longer; it has heard how much a has; if the text began where b's bytes end,
-- and there are bytes and room, b has one more at least; an end that was heard stays, and a closed one with nothing left to confirm tells the end.
pub record Heard (cfg : Settings) (a b d : Conn) : Type 0 where
  pub mine : d.mine ≡ b.mine
  pub theirs : d.theirs ≡ a.mine
  pub phase : d.phase ≡ Open
  pub opened : d.opened ≡ true
  pub given : d.given ≡ b.given
  pub closed : d.closed ≡ b.closed
  pub upto : length a.got ≤ d.upto
  pub longer : length b.got ≤ length d.got
  pub brings : a.upto ≡ length b.got → length b.got < length a.given → length b.got < b.taken + cfg.room → length b.got < length d.got
  pub ends_stay : (q : ℕ) → b.end ≡ Last.At q → d.end ≡ Last.At q
  pub ends_come : a.closed ≡ true → a.all ≡ false → a.upto ≡ length a.given → (q : ℕ) × (d.end ≡ Last.At q)

module _ {cfg : Settings} {E : Type 0} (s : System cfg E) where
  -- the first one's due text comes to the second, in at most b moves
  pub record Brought (b : ℕ) (es : List E) (o : Who) (c d : Conn) : Type 0 where
    pub after : List E
    pub reach : Reach s b es after
    pub d' : Conn
    pub at_c : At o (s.seen after) c
    pub at_d : At (other o) (s.seen after) d'
    pub heard : Heard cfg c d d'

  -- the user took all, in at most k moves
  pub record Took (k : ℕ) (es : List E) (o : Who) (c d : Conn) : Type 0 where
    pub after : List E
    pub reach : Reach s k es after
    pub c' : Conn
    pub at_c : At o (s.seen after) c'
    pub at_d : At (other o) (s.seen after) d
    pub mine : c'.mine ≡ c.mine
    pub theirs : c'.theirs ≡ c.theirs
    pub phase : c'.phase ≡ c.phase
    pub got : c'.got ≡ c.got
    pub given : c'.given ≡ c.given
    pub closed : c'.closed ≡ c.closed
    pub taken : c'.taken ≡ length c.got

  -- all that d's user gave came to c, with the end, in at most n moves
  abbrev pub AllCame : ℕ → List E → Who → Conn → Conn → Type 0
  AllCame n es o c d = (fs : List E) × T (s.allowed (fs ++ es)) × (only s.move fs ≡ true) × (length fs ≤ n) ×
      ((x : Conn) → At o (s.seen (fs ++ es)) x → x.mine ≡ c.mine → (x.got ≡ d.given) × (d.closed ≡ true → x.ended ≡ true))

-- Whoever moves by the rules, can bring a due text in b moves and take in k, brings over all n bytes that are given and not got, with the end, in (k + 2 b) (n + 1) + b moves. For events of a type E.
abbrev pub RulesBring : (E : Type 0) → Type 0
RulesBring E =
    (cfg : Settings) → 0 < cfg.room → (s : System cfg E) (b k : ℕ) →
    ((es : List E) (o : Who) (c d : Conn) → Pair s es o c d → Brought s b es o c d) → ((es : List E) (o : Who) (c d : Conn) → Pair s es o c d → Took s k es o c d) →
    (es : List E) → T (s.allowed es) → (o : Who) (c d : Conn) → At o (s.seen es) c → At (other o) (s.seen es) d → T (lives c.phase) → T (lives d.phase) → One c d →
    AllCame s ((k + 2 * b) * (length (drop (length c.got) d.given) + 1) + b) es o c d
