-- Worked cases, a row each: a run of the model, and what one connection is after it and what its end sent last. Assumes nothing.
use Rattle.std.specs.Prelude.{◌≡◌, ℕ, Bool, true, false, cond, List, [], ◌∷◌, ◌++◌, map, take, ◌==◌}
use Rattle.hold.specs.Packet.{Settings, Packet, Ask, Yes, Text, Bye, bare}
use Rattle.hold.specs.Conn.{Conn, Phase, Half, Open, Gone}
use Rattle.hold.specs.World.{Who, L, R, Ev, Listens, Opens, Due, Gives, Closes, Sends, Breaks, Hears, end, other, coming_to, world}
use Rattle.hold.specs.Self.{Brings, made}

-- what is told of a connection
pub record Brief : Type 0 where
  pub phase : Phase
  pub theirs : ℕ
  pub opened : Bool
  pub got : List ℕ
  pub ended : Bool

abbrev pub brief : Conn → Brief
brief c = record { phase = c.phase; theirs = c.theirs; opened = c.opened; got = c.got; ended = c.ended }

-- of the connections with a tag, gone or not
unfoldable pub briefs : ℕ → List Conn → List Brief
briefs t [] = []
briefs t (c ∷ cs) = cond (c.mine == t) (brief c ∷ briefs t cs) (briefs t cs)

-- events, the latest first; the end and the tag that are looked at; what the connection is; the latest packet of that end
pub record Row : Type 0 where
  pub cfg : Settings
  pub run : List Ev
  pub at : Who
  pub tag : ℕ
  pub is : Brief
  pub sent : Packet

-- what is seen of one connection and one end
pub record Look : Type 0 where
  pub is : List Brief
  pub sent : List Packet

abbrev pub found : Row → Look
found r = record { is = briefs r.tag (end r.at (world r.cfg r.run)).conns; sent = take 1 (coming_to (other r.at) (world r.cfg r.run)) }

abbrev pub expected : Row → Look
expected r = record { is = r.is ∷ []; sent = r.sent ∷ [] }

abbrev pub room8 : Settings
room8 = record { room = 8; size = 1024 }

abbrev pub room3 : Settings
room3 = record { room = 3; size = 1024 }

abbrev pub text : ℕ → ℕ → ℕ → List ℕ → Bool → ℕ → ℕ → Packet
text f t p bs l u e = record { kind = Text; from = f; to = t; place = p; text = bs; last = l; upto = u; all = false; edge = e }

abbrev pub opened : ℕ → List ℕ → Bool → Brief
opened t bs e = record { phase = Open; theirs = t; opened = true; got = bs; ended = e }

-- L opens with 7, R listens and draws 9, L hears the yes; then L's bare text comes to R; then R's, so that L knows R's edge; then L's user gives five bytes
abbrev pub answered : List Ev
answered = Hears L 0 0 ∷ Hears R 0 9 ∷ Opens L 7 ∷ Listens R true ∷ []

abbrev pub both : List Ev
both = Hears R 0 0 ∷ Sends L 7 0 0 ∷ answered

abbrev pub seen : List Ev
seen = Gives L 7 (11 ∷ 12 ∷ 13 ∷ 14 ∷ 15 ∷ []) ∷ Hears L 0 0 ∷ Due R 9 ∷ both

-- the ask of 7 comes again: it is the packet after the latest one of those that L sent
abbrev pub again : List Ev
again = Hears R 1 5 ∷ both

abbrev pub anew : List Ev
anew = Hears R 1 12 ∷ Breaks R 9 ∷ both

-- bytes 2 to 4 come first, then 0 to 2
abbrev pub late : List Ev
late = Hears R 0 0 ∷ Sends L 7 2 3 ∷ seen

abbrev pub five : List Ev
five = Hears R 0 0 ∷ Sends L 7 0 3 ∷ late

abbrev pub rows : List Row
rows =
    -- A. L is open with 9; R's 9 is half, and has sent its yes; L's bare text opens it
    record { cfg = room8; run = answered; at = L; tag = 7; is = opened 9 [] false; sent = bare Ask 7 0 } ∷
    record { cfg = room8; run = answered; at = R; tag = 9; is = record { phase = Half; theirs = 7; opened = false; got = []; ended = false }; sent = bare Yes 9 7 } ∷
    record { cfg = room8; run = both; at = R; tag = 9; is = opened 7 [] false; sent = bare Yes 9 7 } ∷
    -- B. the ask comes again: R's yes again; L hears it, nothing changes, and a due text goes out
    record { cfg = room8; run = again; at = R; tag = 9; is = opened 7 [] false; sent = bare Yes 9 7 } ∷
    record { cfg = room8; run = made room8 again (Brings L 0 0 ∷ []) ++ again; at = L; tag = 7; is = opened 9 [] false; sent = text 7 9 0 [] false 0 8 } ∷
    -- C. after R broke 9 the ask comes again: R draws 12, half; L hears its yes: a bye to 12; R's 12 is gone, and its user never heard of it
    record { cfg = room8; run = anew; at = R; tag = 12; is = record { phase = Half; theirs = 7; opened = false; got = []; ended = false }; sent = bare Yes 12 7 } ∷
    record { cfg = room8; run = Hears L 0 0 ∷ anew; at = L; tag = 7; is = opened 9 [] false; sent = bare Bye 7 12 } ∷
    record { cfg = room8; run = Hears R 0 0 ∷ Hears L 0 0 ∷ anew; at = R; tag = 12; is = record { phase = Gone; theirs = 7; opened = false; got = []; ended = false }; sent = bare Yes 12 7 } ∷
    -- D. five bytes given, and R's edge is 3: a text has at most three
    record { cfg = room3; run = Sends L 7 0 1024 ∷ seen; at = L; tag = 7; is = opened 9 [] false; sent = text 7 9 0 (11 ∷ 12 ∷ 13 ∷ []) false 0 3 } ∷
    -- E. places 2, 3, 4 are kept, and with 0, 1, 2 all five bytes are handed on
    record { cfg = room8; run = late; at = R; tag = 9; is = opened 7 [] false; sent = text 9 7 0 [] false 0 8 } ∷
    record { cfg = room8; run = five; at = R; tag = 9; is = opened 7 (11 ∷ 12 ∷ 13 ∷ 14 ∷ 15 ∷ []) false; sent = text 9 7 0 [] false 0 8 } ∷
    -- F. L closed after five bytes, and says so at place 5: R's user is told the end if it got all five, and else not
    record { cfg = room8; run = Sends L 7 5 0 ∷ Closes L 7 ∷ five; at = L; tag = 7; is = opened 9 [] false; sent = text 7 9 5 [] true 0 8 } ∷
    record { cfg = room8; run = Hears R 0 0 ∷ Sends L 7 5 0 ∷ Closes L 7 ∷ five; at = R; tag = 9; is = opened 7 (11 ∷ 12 ∷ 13 ∷ 14 ∷ 15 ∷ []) true; sent = text 9 7 0 [] false 0 8 } ∷
    record { cfg = room8; run = Hears R 0 0 ∷ Sends L 7 5 0 ∷ Closes L 7 ∷ late; at = R; tag = 9; is = opened 7 [] false; sent = text 9 7 0 [] false 0 8 } ∷ []

abbrev pub WorkedCases : Type 0
WorkedCases = map found rows ≡ map expected rows
