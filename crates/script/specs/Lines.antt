-- The words that a line has.
use Rattle.std.specs.Prelude.{ℕ, Bool, true, false, List, [], ◌∷◌, Some, None, Ok, Err, Option, Result}
use Rattle.std.specs.Borrow.{Bor}
use Rattle.script.specs.declared.line.Side.{Side}
use Rattle.script.specs.declared.line.Fault.{Fault}
use Rattle.script.specs.declared.line.Call.{Call}
use Rattle.script.specs.declared.line.Call.TheVariants.{Listen, Open, Accept, Give, Take, Close, Break, State, Due, Answer, Send, Forget}
use Rattle.script.specs.declared.line.Line.{Line}
use Rattle.script.specs.declared.line.Line.TheVariants.{Blank, Settings, Act, Bring, Damage, Drive, Tick}
use Rattle.script.specs.declared.word.Switch.{Switch}
use Rattle.script.specs.declared.word.Switch.TheVariants.{On, Off}
use Rattle.script.specs.declared.word.Verb.{Verb}
use Rattle.script.specs.declared.word.Verb.TheVariants as verb
use Rattle.script.specs.declared.word.Head.TheVariants as head
use Rattle.script.specs.Parse.{Item, Begins, Calls, Names, Turns, Counts, Brings, Words}

abbrev pub switch_of : Bool → Switch
switch_of true = On
switch_of false = Off

abbrev pub verb_of : Call → Verb
verb_of (Listen on) = verb.Listen
verb_of (Open tag) = verb.Open
verb_of Accept = verb.Accept
verb_of (Give tag encoded) = verb.Give
verb_of (Take tag count) = verb.Take
verb_of (Close tag) = verb.Close
verb_of (Break tag) = verb.Break
verb_of (State tag) = verb.State
verb_of (Due tag) = verb.Due
verb_of (Answer tag) = verb.Answer
verb_of (Send tag place count) = verb.Send
verb_of (Forget tag) = verb.Forget

abbrev pub arguments_of : Call → List Item
arguments_of (Listen on) = Turns (switch_of on) ∷ []
arguments_of (Open tag) = Counts tag ∷ []
arguments_of Accept = []
arguments_of (Give tag encoded) = Counts tag ∷ Brings encoded.now ∷ []
arguments_of (Take tag count) = Counts tag ∷ Counts count ∷ []
arguments_of (Close tag) = Counts tag ∷ []
arguments_of (Break tag) = Counts tag ∷ []
arguments_of (State tag) = Counts tag ∷ []
arguments_of (Due tag) = Counts tag ∷ []
arguments_of (Answer tag) = Counts tag ∷ []
arguments_of (Send tag place count) = Counts tag ∷ Counts place ∷ Counts count ∷ []
arguments_of (Forget tag) = Counts tag ∷ []

abbrev pub at_side : Option Side → Call → List Item
at_side None c = Begins (head.Do (verb_of c)) ∷ arguments_of c
at_side (Some s) c = Begins (head.At s) ∷ Calls (verb_of c) ∷ arguments_of c

abbrev pub words_of : Line → List Item
words_of Blank = []
words_of (Settings room size) = Begins head.Settings ∷ Counts room ∷ Counts size ∷ []
words_of (Act side call) = at_side side call
words_of (Bring to which tag) = Begins head.Bring ∷ Names to ∷ Counts which ∷ Counts tag ∷ []
words_of (Damage to which byte mask tag) = Begins head.Damage ∷ Names to ∷ Counts which ∷ Counts byte ∷ Counts mask ∷ Counts tag ∷ []
words_of (Drive side tag) = Begins head.Drive ∷ Names side ∷ Counts tag ∷ []
words_of (Tick count) = Begins head.Tick ∷ Counts count ∷ []

-- what a reader gave, by its words
abbrev pub ended : Result (Unit {0}) (Bor (List ℕ)) → Words
ended (Ok x) = Ok []
ended (Err r) = Err r.now

abbrev pub one_seen : Result ℕ (Bor (List ℕ)) → Words
one_seen (Ok a) = Ok (Counts a ∷ [])
one_seen (Err r) = Err r.now

abbrev pub two_seen : Result (ℕ × ℕ) (Bor (List ℕ)) → Words
two_seen (Ok x) = Ok (Counts x.0 ∷ Counts x.1 ∷ [])
two_seen (Err r) = Err r.now

abbrev pub bytes_seen : Result (Bor (List ℕ)) (Bor (List ℕ)) → Words
bytes_seen (Ok word) = Ok (Brings word.now ∷ [])
bytes_seen (Err r) = Err r.now

-- a call without its verb, where it is that verb's
abbrev pub call_seen : Result Call (Bor (List ℕ)) → Result (Verb × List Item) (List ℕ)
call_seen (Ok c) = Ok (verb_of c, arguments_of c)
call_seen (Err r) = Err r.now

abbrev pub beside : Verb → Words → Result (Verb × List Item) (List ℕ)
beside v (Ok is) = Ok (v, is)
beside v (Err r) = Err r

abbrev pub line_seen : Result Line (Bor (List ℕ)) → Words
line_seen (Ok l) = Ok (words_of l)
line_seen (Err r) = Err r.now

abbrev pub line_read : Result Line Fault → Result (List Item) ℕ
line_read (Ok l) = Ok (words_of l)
line_read (Err f) = Err f.column
