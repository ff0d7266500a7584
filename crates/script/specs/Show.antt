-- The bytes of a line.
use Rattle.std.specs.Prelude.{◌≡◌, ℕ, List, [], ◌∷◌, ◌++◌, map, decimal, Result, OnOk}
use Rattle.script.specs.declared.line.Line.{Line}
use Rattle.script.specs.Words.{spelled_side, spelled_switch, spelled_verb, spelled_head}
use Rattle.script.specs.Parse.{Item, Begins, Calls, Names, Turns, Counts, Brings}
use Rattle.script.specs.Lines.{words_of}

abbrev pub shown_word : Item → List ℕ
shown_word (Begins h) = spelled_head h
shown_word (Calls v) = spelled_verb v
shown_word (Names s) = spelled_side s
shown_word (Turns s) = spelled_switch s
shown_word (Counts n) = decimal n
shown_word (Brings word) = word

-- no bytes are no word
abbrev pub behind_one : List ℕ → List ℕ
behind_one [] = []
behind_one (b ∷ bs) = 32 ∷ b ∷ bs

abbrev pub spaced : Item → List ℕ
spaced (Begins h) = 32 ∷ spelled_head h
spaced (Calls v) = 32 ∷ spelled_verb v
spaced (Names s) = 32 ∷ spelled_side s
spaced (Turns s) = 32 ∷ spelled_switch s
spaced (Counts n) = 32 ∷ decimal n
spaced (Brings word) = behind_one word

-- the words behind the first
abbrev pub shown_behind : List Item → List ℕ
shown_behind [] = []
shown_behind (i ∷ is) = spaced i ++ shown_behind is

abbrev pub shown_words : List Item → List ℕ
shown_words [] = []
shown_words (i ∷ is) = shown_word i ++ shown_behind is

abbrev pub shown : Line → List ℕ
shown l = shown_words (words_of l)

abbrev pub counted : List ℕ → List ℕ
counted ns = shown_behind (map Counts ns)

-- what a printer does to the bytes before it, unless memory runs out
abbrev pub Appends : {E : Type 0} → Result (Unit {0}) E → List ℕ → List ℕ → List ℕ → Type 0
Appends result old new more = OnOk result (new ≡ old ++ more)
