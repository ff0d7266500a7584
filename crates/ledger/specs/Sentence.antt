-- What users see of two ends, and what is promised of it. Assumes nothing.
use Rattle.std.specs.Prelude.{◌≡◌, ℕ, ◌≤◌, Bool, true, ◌&&◌, List, ◌++◌, length, ◌==◌}
use mathlib.Core.List.{Memᴰ}

-- What is written down of one connection at one end. tag: its own; peer: the other's, once it knows it; opened: it was ever open;
-- given: the bytes that its user gave; closed: and no more will come; arrived: how many bytes came in order; taken: the bytes that its user was given;
-- heard: it heard where the other's end is; told: its user was told the end; upto: so many of its own bytes it believes to have arrived; all: and their end too.
pub record Account : Type 0 where
  pub tag : ℕ
  pub peer : ℕ
  pub opened : Bool
  pub given : List ℕ
  pub closed : Bool
  pub arrived : ℕ
  pub taken : List ℕ
  pub heard : Bool
  pub told : Bool
  pub upto : ℕ
  pub all : Bool

-- two connections are one: each has the other's tag
abbrev pub One : Account → Account → Type 0
One c d = (c.peer ≡ d.tag) × (d.peer ≡ c.tag)

-- What c has from d. Its user has been given a first part of what the other's user gave; it is told the end exactly when all of that arrived, the other closed, and that was heard;
-- and what it believes to have arrived did.
pub record Delivered (c d : Account) : Type 0 where
  pub rest : List ℕ
  pub first_part : c.taken ++ rest ≡ d.given
  pub in_order : (length c.taken ≤ c.arrived) × (c.arrived ≤ length d.given)
  pub told : c.told ≡ (c.arrived == length d.given && (d.closed && c.heard))
  pub heard : c.heard ≡ true → d.closed ≡ true
  pub came : c.upto ≤ d.arrived
  pub all_came : c.all ≡ true → d.told ≡ true

-- c, of these, is one with just one of the others, and that one with it alone
pub record Paired (these others : List Account) (c : Account) : Type 0 where
  pub partner : Account
  pub there : Memᴰ partner others
  pub one : One c partner
  pub only : (e : Account) → Memᴰ e others → e.tag ≡ c.peer → e ≡ partner
  pub alone : (e : Account) → Memᴰ e these → e.opened ≡ true → e.peer ≡ c.peer → e ≡ c
  pub delivered : Delivered c partner

-- each of these that was ever open is. (What stands between ∥ and ∥₁ is so, and how it is shown is not told.)
abbrev pub Whole : List Account → List Account → Type 0
Whole these others = (c : Account) → Memᴰ c these → c.opened ≡ true → ∥ Paired these others c ∥₁

-- THE SENTENCE, of all that is written down at the two ends: each connection that was ever open is one with just one of the other end and that one with it; what its user has been given is a first part of what the other's user gave;
-- it is told the end exactly when that was all, the other closed, and that was heard; and what an end believes to have arrived did.
abbrev pub Sentence : List Account → List Account → Type 0
Sentence ls rs = Whole ls rs × Whole rs ls
