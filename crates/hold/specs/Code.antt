-- What the code of an end must be, to be an end of this world: its states stand for ends, and each call, packet and moment at which something is due does just the step of the world and sends just what the world sends.
-- A state has only what is still needed, and an end of the model has all that ever was; so a state stands for many ends, and `Stands` is a relation. State and relation are parameters, so that a contract can name the record.
-- Assumes nothing.
use Rattle.std.specs.Prelude.{◌≡◌, ℕ, zero, suc, ◌+◌, ◌^◌, ◌<◌, ◌≤◌, Bool, true, false, cond, not, ◌&&◌, ◌||◌, T, List, [], ◌∷◌, ◌++◌, length, ◌==◌, nat_le, nat_lt}
use mathlib.Core.List.{Memᴰ}
use Rattle.hold.specs.Packet.{Settings, Packet, Kind, Ask, Yes, Text, Bye, bare}
use Rattle.hold.specs.Conn.{Conn, Asked, Half, Gone, new, in_phase, open_with, gives, closes, takes, hears, says}
use Rattle.hold.specs.World.{Who, L, R, End, World, Ev, start, Listens, Opens, Due, Gives, Closes, Takes, Sends, Breaks, Forgets, Hears, end, other, coming_to, changed, added, is_in, is_open, is_asked, on_kind, step, gone, Found, NotThere, There, by_tag, by_theirs, says_if, due_if, bye_if}
use Rattle.hold.specs.Promise.{tags}

-- calls, and what is due, of one end
abbrev pub same_who : Who → Who → Bool
same_who L L = true
same_who L R = false
same_who R L = false
same_who R R = true

abbrev pub of_end : Who → Ev → Bool
of_end o (Listens p b) = same_who o p
of_end o (Opens p t) = same_who o p
of_end o (Due p t) = same_who o p
of_end o (Gives p t bs) = same_who o p
of_end o (Closes p t) = same_who o p
of_end o (Takes p t k) = same_who o p
of_end o (Sends p t a k) = same_who o p
of_end o (Breaks p t) = same_who o p
of_end o (Forgets p t) = same_who o p
of_end o (Hears p i t) = false

unfoldable pub living : List Conn → ℕ
living [] = 0
living (c ∷ cs) = cond (gone c.phase) 0 1 + living cs

abbrev pub is_ask : Kind → Bool
is_ask Ask = true
is_ask Yes = false
is_ask Text = false
is_ask Bye = false

abbrev pub is_there : Found → Bool
is_there NotThere = false
is_there (There c) = true

-- an ask that needs a new connection
abbrev pub takes_place : Packet → End → Bool
takes_place p e = is_ask p.kind && not (is_there (by_theirs p.from e.conns))

-- a connection that owes something: something given and not confirmed, or closed and not confirmed by all
abbrev pub owes : Conn → Bool
owes c = is_open c.phase && (nat_lt c.upto (length c.given) || (c.closed && not c.all))

abbrev pub is_text : Kind → Bool
is_text Ask = false
is_text Yes = false
is_text Text = true
is_text Bye = false

abbrev pub has_bytes : List ℕ → Bool
has_bytes [] = false
has_bytes (b ∷ bs) = true

-- a text that brought bytes or last
abbrev pub wants_answer : Packet → Bool
wants_answer p = is_text p.kind && (p.last || has_bytes p.text)

abbrev pub same_bool : Bool → Bool → Bool
same_bool true b = b
same_bool false b = not b

-- all below a number
unfoldable pub all_below : ℕ → List ℕ → Bool
all_below n [] = true
all_below n (b ∷ bs) = nat_lt b n && all_below n bs

-- what only a text has
abbrev pub is_bare : Packet → Bool
is_bare p = p.place == 0 && not (has_bytes p.text) && not p.last && p.upto == 0 && not p.all && p.edge == 0

-- A packet that a reader lets through: tags of 64 bits that are not 0 (an ask has nobody's), at most 1,024 bytes, numbers up to 2 to the 62, and nothing where nothing belongs.
abbrev pub readable : Packet → Bool
readable p = not (p.from == 0) && nat_lt p.from (2 ^ 64) && same_bool (p.to == 0) (is_ask p.kind) && nat_lt p.to (2 ^ 64) && (is_text p.kind || is_bare p) &&
    (nat_le (length p.text) 1024 && all_below 256 p.text && nat_le p.place (2 ^ 62) && nat_le p.upto (2 ^ 62) && nat_le p.edge (2 ^ 62 + 65536))

-- calls of a user for one of its connections
abbrev pub is_call : Ev → Bool
is_call (Listens o b) = false
is_call (Opens o t) = false
is_call (Due o t) = false
is_call (Gives o t bs) = true
is_call (Closes o t) = true
is_call (Takes o t k) = true
is_call (Sends o t p k) = false
is_call (Breaks o t) = true
is_call (Forgets o t) = false
is_call (Hears o i t) = false

abbrev pub tag_of : Ev → ℕ
tag_of (Listens o b) = 0
tag_of (Opens o t) = t
tag_of (Due o t) = t
tag_of (Gives o t bs) = t
tag_of (Closes o t) = t
tag_of (Takes o t k) = t
tag_of (Sends o t p k) = t
tag_of (Breaks o t) = t
tag_of (Forgets o t) = t
tag_of (Hears o i t) = t

-- what becomes of an end by an event of its own, and what it sends
abbrev pub done_by : Ev → End → End
done_by (Listens o b) s = record { conns = s.conns; listens = b }
done_by (Opens o t) s = cond (t == 0) s (added (new Asked t 0) s)
done_by (Due o t) s = s
done_by (Gives o t bs) s = changed t (gives bs) s
done_by (Closes o t) s = changed t closes s
done_by (Takes o t k) s = changed t (takes k) s
done_by (Sends o t p k) s = s
done_by (Breaks o t) s = changed t (in_phase Gone) s
done_by (Forgets o t) s = changed t (in_phase Gone) s
done_by (Hears o i t) s = s

abbrev pub sent_by : Settings → Ev → End → List Packet
sent_by cfg (Listens o b) s = []
sent_by cfg (Opens o t) s = cond (t == 0) [] (bare Ask t 0 ∷ [])
sent_by cfg (Due o t) s = due_if cfg (by_tag t s.conns)
sent_by cfg (Gives o t bs) s = []
sent_by cfg (Closes o t) s = []
sent_by cfg (Takes o t k) s = []
sent_by cfg (Sends o t p k) s = says_if cfg p k (by_tag t s.conns)
sent_by cfg (Breaks o t) s = bye_if (by_tag t s.conns)
sent_by cfg (Forgets o t) s = []
sent_by cfg (Hears o i t) s = []

-- what becomes of an end that hears a packet, and what it sends: the same case analysis as on_kind, over an end alone
pub record Turn : Type 0 where
  pub now : End
  pub sent : List Packet

abbrev pub asked_by : Packet → ℕ → Found → End → Turn
asked_by p t (There c) s = record { now = s; sent = bare Yes c.mine c.theirs ∷ [] }
asked_by p t NotThere s = cond (s.listens && not (t == 0)) (record { now = added (new Half t p.from) s; sent = bare Yes t p.from ∷ [] }) (record { now = s; sent = [] })

abbrev pub answered_by : Packet → Found → End → Turn
answered_by p NotThere s = record { now = s; sent = bare Bye p.to p.from ∷ [] }
answered_by p (There c) s = cond (is_asked c.phase) (record { now = changed c.mine (open_with p.from) s; sent = [] })
    (cond (c.theirs == p.from) (record { now = s; sent = [] }) (record { now = s; sent = bare Bye p.to p.from ∷ [] }))

abbrev pub told_by : Settings → Packet → Found → End → Turn
told_by cfg p NotThere s = record { now = s; sent = bare Bye p.to p.from ∷ [] }
told_by cfg p (There c) s = cond (not (is_asked c.phase) && c.theirs == p.from) (record { now = changed c.mine (λ d. hears cfg p (open_with p.from d)) s; sent = [] }) (record { now = s; sent = [] })

abbrev pub broken_by : Packet → Found → End → Turn
broken_by p NotThere s = record { now = s; sent = [] }
broken_by p (There c) s = cond (not (is_asked c.phase) && c.theirs == p.from) (record { now = changed c.mine (in_phase Gone) s; sent = [] }) (record { now = s; sent = [] })

abbrev pub heard_by : Settings → Packet → ℕ → Kind → End → Turn
heard_by cfg p t Ask s = asked_by p t (by_theirs p.from s.conns) s
heard_by cfg p t Yes s = answered_by p (by_tag p.to s.conns) s
heard_by cfg p t Text s = told_by cfg p (by_tag p.to s.conns) s
heard_by cfg p t Bye s = broken_by p (by_tag p.to s.conns) s

-- a text that goes out because it may begins at or above upto, and is not too long
abbrev pub send_fits : Settings → ℕ → ℕ → Found → Bool
send_fits cfg p k NotThere = true
send_fits cfg p k (There c) = nat_le c.upto p && nat_le k cfg.size

-- had: the connections that their user has, which it opened or was given. fits: whether the code has room for this event; what doesn't fit is refused and changes nothing. most: so many connections always fit.
pub record Code (cfg : Settings) (most : ℕ) (State : Type 0) (Stands : State → End → Type 0) : Type 0 where
  pub first : State
  pub first_so : (o : Who) → Stands first (end o start)
  pub had : ℕ → State → Bool
  pub fits : Ev → State → Bool
  pub call : Ev → State → State
  pub out : Ev → State → List Packet
  pub room_for : State → Bool
  pub hears : Packet → ℕ → State → State
  pub out_of_hears : Packet → ℕ → State → List Packet
  -- what fits does the step of the world, and sends what it sends; what doesn't is refused
  pub does : (o : Who) (e : Ev) → of_end o e ≡ true → (w : World) (s : State) → Stands s (end o w) → fits e s ≡ true → ((p : Who) (t : ℕ) → e ≡ Opens p t → is_in t w.drawn ≡ false) →
      Stands (call e s) (end o (step cfg e w)) × (coming_to (other o) (step cfg e w) ≡ out e s ++ coming_to (other o) w)
  pub refuses : (e : Ev) (s : State) (x : End) → fits e s ≡ false → Stands s x → Stands (call e s) x × (out e s ≡ [])
  -- a packet that a reader lets through, with a drawn tag that nobody here has; an ask that wants a place when there is none is dropped
  pub hears_so : (o : Who) (p : Packet) (t : ℕ) (w : World) (s : State) → Stands s (end o w) → readable p ≡ true → is_in t w.drawn ≡ false → is_in t (tags (end o w).conns) ≡ false → (t == 0) ≡ false → nat_lt t (2 ^ 64) ≡ true →
      (takes_place p (end o w) ≡ true → room_for s ≡ true) →
      Stands (hears p t s) (end o (on_kind cfg o p t p.kind w)) × (coming_to (other o) (on_kind cfg o p t p.kind w) ≡ out_of_hears p t s ++ coming_to (other o) w)
  pub drops : (p : Packet) (t : ℕ) (s : State) (x : End) → Stands s x → takes_place p x ≡ true → room_for s ≡ false → Stands (hears p t s) x × (out_of_hears p t s ≡ [])
  -- what fits at least
  pub has_room : (s : State) (x : End) → Stands s x → living x.conns < most → room_for s ≡ true
  pub opens_fit : (o : Who) (t : ℕ) (s : State) (x : End) → Stands s x → living x.conns < most → is_in t (tags x.conns) ≡ false → (t == 0) ≡ false → nat_lt t (2 ^ 64) ≡ true → fits (Opens o t) s ≡ true
  pub gives_fit : (o : Who) (t : ℕ) (bs : List ℕ) (s : State) (x : End) (c : Conn) → Stands s x → had t s ≡ true → by_tag t x.conns ≡ There c → c.closed ≡ false → all_below 256 bs ≡ true →
      length c.given + length bs ≤ c.upto + cfg.room → length c.given + length bs ≤ 2 ^ 62 → fits (Gives o t bs) s ≡ true
  pub others_fit : (o : Who) (t k : ℕ) (b : Bool) (s : State) → (fits (Listens o b) s ≡ true) × (fits (Due o t) s ≡ true) × (fits (Forgets o t) s ≡ true) ×
      (had t s ≡ true → (x : End) (c : Conn) → Stands s x → by_tag t x.conns ≡ There c → (c.closed ≡ false → fits (Closes o t) s ≡ true) × (fits (Takes o t k) s ≡ true) × (fits (Breaks o t) s ≡ true))
  -- a user calls only what it has, and it has what it opened
  pub only_had : (e : Ev) (s : State) → is_call e ≡ true → fits e s ≡ true → had (tag_of e) s ≡ true
  pub opened_had : (o : Who) (t : ℕ) (s : State) → fits (Opens o t) s ≡ true → had t (call (Opens o t) s) ≡ true
  -- what goes out beside due texts is a cut of what was given, from upto on, of at most size bytes
  pub more : (o : Who) (t p k : ℕ) (s : State) (x : End) (c : Conn) → Stands s x → by_tag t x.conns ≡ There c → fits (Sends o t p k) s ≡ true → (c.upto ≤ p) × (k ≤ cfg.size)

-- One tick with nothing else: time passes, the connections whose time is over are forgotten, and what is due goes out; and so many of them.
module _ {State : Type 0} (call : Ev → State → State) (tick : State → State) (expires clock : State → List ℕ) (o : Who) where
  unfoldable pub forget_all : List ℕ → State → State
  forget_all [] s = s
  forget_all (t ∷ ts) s = forget_all ts (call (Forgets o t) s)

  unfoldable pub due_all : List ℕ → State → State
  due_all [] s = s
  due_all (t ∷ ts) s = due_all ts (call (Due o t) s)

  abbrev pub passed : State → State
  passed s = forget_all (expires (tick s)) (tick s)

  unfoldable pub idle : ℕ → State → State
  idle zero s = s
  idle (suc n) s = idle n (due_all (clock (passed s)) (passed s))

-- What an end does by itself, above its calls. tick: a tick passes; expires: the tags that are then forgotten; clock: the tags whose due text then goes out; answer: what goes out after a hearing.
-- An end that owes something says so within 60 seconds, if nothing else comes; and a text that brought bytes or last gets its answer.
pub record Clocks (cfg : Settings) (most : ℕ) (State : Type 0) (Stands : State → End → Type 0) (code : Code cfg most State Stands) : Type 0 where
  pub tick : State → State
  pub tick_same : (s : State) (x : End) → Stands s x → Stands (tick s) x
  pub expires : State → List ℕ
  pub clock : State → List ℕ
  pub comes : (o : Who) (s : State) (x : End) (c : Conn) → Stands s x → Memᴰ c x.conns → T (owes c) →
      (n : ℕ) × (n ≤ 60000) × T (is_in c.mine (clock (passed code.call tick expires clock o (idle code.call tick expires clock o n s))))
  pub lasts : (s : State) (x : End) (c : Conn) → Stands s x → Memᴰ c x.conns → T (owes c) → is_in c.mine (expires s) ≡ false
  pub answer : Packet → ℕ → State → List Packet
  pub answers : (p : Packet) (t : ℕ) (s : State) (x : End) (d : Conn) → Stands (code.hears p t s) x → by_tag p.to x.conns ≡ There d → is_asked d.phase ≡ false → d.theirs ≡ p.from → T (wants_answer p) →
      answer p t s ≡ says cfg d.upto cfg.size d ∷ []

-- what the code of an end with room for 65,536 bytes and sixteen connections must give
abbrev pub full : Settings
full = record { room = 65536; size = 1024 }

-- The fields contradict nothing: they are met where the states are the ends of the model themselves. It says no more; what counts is the code's own contracts.
abbrev pub SameEnd : End → End → Type 0
SameEnd s x = s ≡ x

abbrev pub CodeCanBe : Type 0
CodeCanBe = (cfg : Settings) (most : ℕ) → (c : Code cfg most End SameEnd) × Clocks cfg most End SameEnd c
