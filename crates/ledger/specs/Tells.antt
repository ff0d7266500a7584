-- Which connections of the model an account tells of.
use Rattle.std.specs.Prelude.{◌≡◌, ℕ, Bool, true, false, cond, ◌||◌, List, [], ◌∷◌, ◌++◌, map, length, ◌==◌}
use Rattle.hold.specs.Conn.{Conn, Last, NotSaid, At}
use Rattle.hold.specs.World.{gone, is_open, Found, NotThere, There, by_tag}
use Rattle.ledger.specs.Sentence.{Account}

abbrev pub is_said : Last → Bool
is_said NotSaid = false
is_said (At p) = true

-- The user of a connection that is gone may go on taking what it got; the model leaves that out.
pub record Tells (a : Account) (c : Conn) : Type 0 where
  pub tag : a.tag ≡ c.mine
  pub peer : a.peer ≡ c.theirs
  pub opened : a.opened ≡ c.opened
  pub given : a.given ≡ c.given
  pub closed : a.closed ≡ c.closed
  pub arrived : a.arrived ≡ length c.got
  pub rest : List ℕ
  pub taken : a.taken ++ rest ≡ c.got
  pub count : gone c.phase ≡ false → length a.taken ≡ c.taken
  pub heard : a.heard ≡ is_said c.end
  pub told : a.told ≡ c.ended
  pub upto : a.upto ≡ c.upto
  pub all : a.all ≡ c.all

-- account by account, the latest first
abbrev pub Tell : List Account → List Conn → Type 0
Tell [] [] = Unit {0}
Tell [] (c ∷ cs) = ⊥
Tell (a ∷ bs) [] = ⊥
Tell (a ∷ bs) (c ∷ cs) = Tells a c × Tell bs cs

-- an account, as it is after a look at the connection that it tells of
abbrev pub seen : Found → Account → Account
seen NotThere a = a
seen (There c) a = record { tag = a.tag; peer = c.theirs; opened = a.opened || is_open c.phase; given = a.given; closed = c.closed; arrived = length c.got; taken = a.taken; heard = is_said c.end; told = c.ended; upto = c.upto; all = c.all }

-- all accounts, after a look at all connections
abbrev pub looked : List Conn → List Account → List Account
looked cs bs = map (λ a. seen (by_tag a.tag cs) a) bs

-- an account of a connection that nothing happened to
abbrev pub begun : ℕ → Account
begun t = record { tag = t; peer = 0; opened = false; given = []; closed = false; arrived = 0; taken = []; heard = false; told = false; upto = 0; all = false }

-- one account more, if a connection with the tag is there
abbrev pub with_new : ℕ → Found → List Account → List Account
with_new t NotThere bs = bs
with_new t (There c) bs = begun t ∷ bs

-- bytes that the user of a tag gave, or was given, are written down
abbrev pub wrote : ℕ → ℕ → List ℕ → List ℕ
wrote u t bs = cond (t == u) bs []

abbrev pub gave : ℕ → List ℕ → Account → Account
gave t bs a = record { tag = a.tag; peer = a.peer; opened = a.opened; given = a.given ++ wrote a.tag t bs; closed = a.closed; arrived = a.arrived; taken = a.taken; heard = a.heard; told = a.told; upto = a.upto; all = a.all }

abbrev pub took : ℕ → List ℕ → Account → Account
took t bs a = record { tag = a.tag; peer = a.peer; opened = a.opened; given = a.given; closed = a.closed; arrived = a.arrived; taken = a.taken ++ wrote a.tag t bs; heard = a.heard; told = a.told; upto = a.upto; all = a.all }
