-- Two ends with all their connections, the net between them, and whatever may happen. Assumes nothing.
use Rattle.std.specs.Prelude.{ℕ, zero, suc, Bool, true, false, cond, not, ◌&&◌, ◌||◌, List, [], ◌∷◌, ◌++◌, ◌==◌}
use Rattle.hold.specs.Packet.{Settings, Kind, Ask, Yes, Text, Bye, Packet, bare}
use Rattle.hold.specs.Conn.{Phase, Asked, Half, Open, Gone, Conn, new, in_phase, open_with, gives, closes, takes, hears, says, due}

pub data Who : Type 0 where
  L : Who
  R : Who

-- an end: all connections that it ever had, the latest first, and whether it takes asks
pub record End : Type 0 where
  pub conns : List Conn
  pub listens : Bool

-- to_l, to_r: all packets ever sent that way, the latest first; drawn: all tags ever drawn
pub record World : Type 0 where
  pub left : End
  pub right : End
  pub to_l : List Packet
  pub to_r : List Packet
  pub drawn : List ℕ

pub data Ev : Type 0 where
  Listens : Who → Bool → Ev
  Opens : Who → (tag : ℕ) → Ev
  Due : Who → (tag : ℕ) → Ev
  Gives : Who → (tag : ℕ) → List ℕ → Ev
  Closes : Who → (tag : ℕ) → Ev
  Takes : Who → (tag k : ℕ) → Ev
  Sends : Who → (tag place k : ℕ) → Ev
  Breaks : Who → (tag : ℕ) → Ev
  Forgets : Who → (tag : ℕ) → Ev
  Hears : Who → (which draws : ℕ) → Ev

abbrev pub start : World
start = record { left = record { conns = []; listens = false }; right = record { conns = []; listens = false }; to_l = []; to_r = []; drawn = [] }

abbrev pub end : Who → World → End
end L w = w.left
end R w = w.right

abbrev pub other : Who → Who
other L = R
other R = L

abbrev pub coming_to : Who → World → List Packet
coming_to L w = w.to_l
coming_to R w = w.to_r

-- an end changed, packets sent on from it, tags drawn
abbrev pub put : Who → End → List Packet → List ℕ → World → World
put L e ps ts w = record { left = e; right = w.right; to_l = w.to_l; to_r = ps ++ w.to_r; drawn = ts ++ w.drawn }
put R e ps ts w = record { left = w.left; right = e; to_l = ps ++ w.to_l; to_r = w.to_r; drawn = ts ++ w.drawn }

unfoldable pub is_in : ℕ → List ℕ → Bool
is_in n [] = false
is_in n (x ∷ xs) = x == n || is_in n xs

abbrev pub gone : Phase → Bool
gone Asked = false
gone Half = false
gone Open = false
gone Gone = true

abbrev pub is_open : Phase → Bool
is_open Asked = false
is_open Half = false
is_open Open = true
is_open Gone = false

abbrev pub is_asked : Phase → Bool
is_asked Asked = true
is_asked Half = false
is_asked Open = false
is_asked Gone = false

-- the connection with this tag that isn't gone
pub data Found : Type 0 where
  NotThere : Found
  There : Conn → Found

unfoldable pub by_tag : ℕ → List Conn → Found
by_tag t [] = NotThere
by_tag t (c ∷ cs) = cond (c.mine == t && not (gone c.phase)) (There c) (by_tag t cs)

-- the connection that answers the other's tag and isn't gone
unfoldable pub by_theirs : ℕ → List Conn → Found
by_theirs t [] = NotThere
by_theirs t (c ∷ cs) = cond (c.theirs == t && not (gone c.phase) && not (is_asked c.phase)) (There c) (by_theirs t cs)

unfoldable pub change : ℕ → (Conn → Conn) → List Conn → List Conn
change t f [] = []
change t f (c ∷ cs) = cond (c.mine == t && not (gone c.phase)) (f c ∷ cs) (c ∷ change t f cs)

abbrev pub changed : ℕ → (Conn → Conn) → End → End
changed t f e = record { conns = change t f e.conns; listens = e.listens }

abbrev pub added : Conn → End → End
added c e = record { conns = c ∷ e.conns; listens = e.listens }

-- what a connection may say, if it is there and open
abbrev pub says_if : Settings → ℕ → ℕ → Found → List Packet
says_if cfg p k NotThere = []
says_if cfg p k (There c) = cond (is_open c.phase) (says cfg p k c ∷ []) []

-- what is sent by itself: an ask again, a yes again, or the text that is due
abbrev pub due_by : Settings → Conn → Phase → List Packet
due_by cfg c Asked = bare Ask c.mine 0 ∷ []
due_by cfg c Half = bare Yes c.mine c.theirs ∷ []
due_by cfg c Open = due cfg c ∷ []
due_by cfg c Gone = []

abbrev pub due_if : Settings → Found → List Packet
due_if cfg NotThere = []
due_if cfg (There c) = due_by cfg c c.phase

abbrev pub bye_if : Found → List Packet
bye_if NotThere = []
bye_if (There c) = cond (is_asked c.phase) [] (bare Bye c.mine c.theirs ∷ [])

-- an ask is heard, with a tag drawn for it
abbrev pub on_ask : Who → Packet → ℕ → Found → World → World
on_ask o p t (There c) w = put o (end o w) (bare Yes c.mine c.theirs ∷ []) [] w
on_ask o p t NotThere w = cond ((end o w).listens && (not (is_in t w.drawn) && not (t == 0)))
    (put o (added (new Half t p.from) (end o w)) (bare Yes t p.from ∷ []) (t ∷ []) w) w

-- a yes is heard by the connection that asked
abbrev pub on_yes : Who → Packet → Found → World → World
on_yes o p NotThere w = put o (end o w) (bare Bye p.to p.from ∷ []) [] w
on_yes o p (There c) w = cond (is_asked c.phase) (put o (changed c.mine (open_with p.from) (end o w)) [] [] w)
    (cond (c.theirs == p.from) w (put o (end o w) (bare Bye p.to p.from ∷ []) [] w))

abbrev pub on_text : Settings → Who → Packet → Found → World → World
on_text cfg o p NotThere w = put o (end o w) (bare Bye p.to p.from ∷ []) [] w
on_text cfg o p (There c) w = cond (not (is_asked c.phase) && c.theirs == p.from)
    (put o (changed c.mine (λ d. hears cfg p (open_with p.from d)) (end o w)) [] [] w) w

abbrev pub on_bye : Who → Packet → Found → World → World
on_bye o p NotThere w = w
on_bye o p (There c) w = cond (not (is_asked c.phase) && c.theirs == p.from) (put o (changed c.mine (in_phase Gone) (end o w)) [] [] w) w

abbrev pub on_kind : Settings → Who → Packet → ℕ → Kind → World → World
on_kind cfg o p t Ask w = on_ask o p t (by_theirs p.from (end o w).conns) w
on_kind cfg o p t Yes w = on_yes o p (by_tag p.to (end o w).conns) w
on_kind cfg o p t Text w = on_text cfg o p (by_tag p.to (end o w).conns) w
on_kind cfg o p t Bye w = on_bye o p (by_tag p.to (end o w).conns) w

unfoldable pub hears_nth : Settings → Who → ℕ → ℕ → List Packet → World → World
hears_nth cfg o i t [] w = w
hears_nth cfg o zero t (p ∷ ps) w = on_kind cfg o p t p.kind w
hears_nth cfg o (suc i) t (p ∷ ps) w = hears_nth cfg o i t ps w

abbrev pub step : Settings → Ev → World → World
step cfg (Listens o b) w = put o (record { conns = (end o w).conns; listens = b }) [] [] w
step cfg (Opens o t) w = cond (is_in t w.drawn || t == 0) w (put o (added (new Asked t 0) (end o w)) (bare Ask t 0 ∷ []) (t ∷ []) w)
step cfg (Due o t) w = put o (end o w) (due_if cfg (by_tag t (end o w).conns)) [] w
step cfg (Gives o t bs) w = put o (changed t (gives bs) (end o w)) [] [] w
step cfg (Closes o t) w = put o (changed t closes (end o w)) [] [] w
step cfg (Takes o t k) w = put o (changed t (takes k) (end o w)) [] [] w
step cfg (Sends o t p k) w = put o (end o w) (says_if cfg p k (by_tag t (end o w).conns)) [] w
step cfg (Breaks o t) w = put o (changed t (in_phase Gone) (end o w)) (bye_if (by_tag t (end o w).conns)) [] w
step cfg (Forgets o t) w = put o (changed t (in_phase Gone) (end o w)) [] [] w
step cfg (Hears o i t) w = hears_nth cfg o i t (coming_to o w) w

-- by events, the latest first
unfoldable pub world : Settings → List Ev → World
world cfg [] = start
world cfg (e ∷ es) = step cfg e (world cfg es)
