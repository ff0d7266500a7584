-- The words of a line.
use Rattle.std.specs.Prelude.{ℕ, ◌+◌, ◌-◌, ◌^◌, cond, List, [], ◌∷◌, length, Ok, Err, Result, ◌==◌}
use Rattle.text.specs.Fronts.{and_then, strip, number}
use Rattle.text.specs.Data.{whole}
use Rattle.text.specs.Words.{choose}
use Rattle.script.specs.declared.line.Side.{Side}
use Rattle.script.specs.declared.word.Verb.{Verb}
use Rattle.script.specs.declared.word.Verb.TheVariants.{Listen, Open, Accept, Give, Take, Close, Break, State, Due, Answer, Send, Forget}
use Rattle.script.specs.declared.word.Switch.{Switch}
use Rattle.script.specs.declared.word.Head.{Head}
use Rattle.script.specs.declared.word.Head.TheVariants.{At, Do, Settings, Bring, Damage, Drive, Tick}
use Rattle.script.specs.Words.{spelled_side, spelled_switch, spelled_verb, spelled_head, sides, switches, verbs, heads}

-- a word of a line
pub data Item : Type 0 where
  Begins : Head → Item
  Calls : Verb → Item
  Names : Side → Item
  Turns : Switch → Item
  Counts : ℕ → Item
  Brings : List ℕ → Item

-- what may stand at a place behind the first words
pub data Slot : Type 0 where
  side : Slot
  switch : Slot
  up_to : (most : ℕ) → Slot
  bytes : Slot

abbrev pub any : Slot
any = up_to (2 ^ 64 - 1)

abbrev pub behind_verb : Verb → List Slot
behind_verb Listen = switch ∷ []
behind_verb Open = any ∷ []
behind_verb Accept = []
behind_verb Give = any ∷ bytes ∷ []
behind_verb Take = any ∷ any ∷ []
behind_verb Close = any ∷ []
behind_verb Break = any ∷ []
behind_verb State = any ∷ []
behind_verb Due = any ∷ []
behind_verb Answer = any ∷ []
behind_verb Send = any ∷ any ∷ any ∷ []
behind_verb Forget = any ∷ []

abbrev pub Words : Type 0
Words = Result (List Item) (List ℕ)

abbrev pub after : Item → Words → Words
after i (Ok is) = Ok (i ∷ is)
after i (Err r) = Err r

abbrev pub onward : {A : Type 0} → Result (List ℕ) (List ℕ) → (List ℕ → Result A (List ℕ)) → Result A (List ℕ)
onward (Ok r) f = f r
onward (Err r) f = Err r

-- what is read behind one space
abbrev pub behind_space : {A : Type 0} → List ℕ → (List ℕ → Result A (List ℕ)) → Result A (List ℕ)
behind_space bs f = onward (strip (32 ∷ []) bs) f

abbrev pub word_of : Result (List ℕ) (List ℕ) → Words
word_of (Ok word) = Ok (Brings word ∷ [])
word_of (Err r) = Err r

-- bytes are the last of a line, and none are no word
abbrev pub last_bytes : List ℕ → Words
last_bytes [] = Ok (Brings [] ∷ [])
last_bytes (b ∷ bs) = word_of (behind_space (b ∷ bs) whole)

abbrev pub line_end : List ℕ → Words
line_end [] = Ok []
line_end (b ∷ bs) = Err (b ∷ bs)

-- the rest of a line
abbrev pub rest : List Slot → List ℕ → Words
rest [] bs = line_end bs
rest (side ∷ ss) bs = and_then (behind_space bs (choose spelled_side sides)) (λ s q. after (Names s) (rest ss q))
rest (switch ∷ ss) bs = and_then (behind_space bs (choose spelled_switch switches)) (λ s q. after (Turns s) (rest ss q))
rest (up_to most ∷ ss) bs = and_then (behind_space bs (number most)) (λ n q. after (Counts n) (rest ss q))
rest (bytes ∷ ss) bs = last_bytes bs

-- a call behind its side
abbrev pub call_words : List ℕ → Words
call_words bs = and_then (behind_space bs (choose spelled_verb verbs)) (λ v q. after (Calls v) (rest (behind_verb v) q))

abbrev pub behind_head : Head → List ℕ → Words
behind_head (At s) bs = call_words bs
behind_head (Do v) bs = rest (behind_verb v) bs
behind_head Settings bs = rest (any ∷ any ∷ []) bs
behind_head Bring bs = rest (side ∷ any ∷ any ∷ []) bs
behind_head Damage bs = rest (side ∷ any ∷ any ∷ up_to 255 ∷ any ∷ []) bs
behind_head Drive bs = rest (side ∷ any ∷ []) bs
behind_head Tick bs = rest (any ∷ []) bs

-- an empty line and a comment have no words
abbrev pub words : List ℕ → Words
words [] = Ok []
words (b ∷ bs) = cond (b == 35) (Ok []) (and_then (choose spelled_head heads (b ∷ bs)) (λ h q. after (Begins h) (behind_head h q)))

abbrev pub columned : List ℕ → Words → Result (List Item) ℕ
columned bs (Ok is) = Ok is
columned bs (Err r) = Err (length bs - length r + 1)

-- the words of a line; or the column, from 1, of the first byte at which no line can go on
abbrev pub parse : List ℕ → Result (List Item) ℕ
parse bs = columned bs (words bs)
