-- Packets, and what a net between two ends has. Assumes nothing.
use Rattle.std.specs.Prelude.{ℕ, Bool, false, cond, ◌||◌, List, [], ◌∷◌, ◌==◌, nat_lt}

-- What both ends agree on: the bytes for which a connection has room, and the most bytes of one text.
pub record Settings : Type 0 where
  pub room : ℕ
  pub size : ℕ

pub data Kind : Type 0 where
  Ask : Kind
  Yes : Kind
  Text : Kind
  Bye : Kind

-- from, to: tags of connections. place: where the text begins in what was given. last: the text's end is the end of all.
-- upto: so many bytes came in order; all: and the end too. edge: up to here there is room
pub record Packet : Type 0 where
  pub kind : Kind
  pub from : ℕ
  pub to : ℕ
  pub place : ℕ
  pub text : List ℕ
  pub last : Bool
  pub upto : ℕ
  pub all : Bool
  pub edge : ℕ

abbrev pub bare : Kind → ℕ → ℕ → Packet
bare k f t = record { kind = k; from = f; to = t; place = 0; text = []; last = false; upto = 0; all = false; edge = 0 }

-- a byte and its place
pub record Piece : Type 0 where
  pub place : ℕ
  pub byte : ℕ

unfoldable pub has : ℕ → List Piece → Bool
has p [] = false
has p (x ∷ xs) = x.place == p || has p xs

unfoldable pub byte_at : ℕ → List Piece → ℕ
byte_at p [] = 0
byte_at p (x ∷ xs) = cond (x.place == p) x.byte (byte_at p xs)

unfoldable pub after : ℕ → List Piece → List Piece
after p [] = []
after p (x ∷ xs) = cond (nat_lt p x.place) (x ∷ after p xs) (after p xs)

abbrev pub larger : ℕ → ℕ → ℕ
larger a e = cond (nat_lt a e) e a

abbrev pub lower : ℕ → ℕ → ℕ
lower a e = cond (nat_lt a e) a e
