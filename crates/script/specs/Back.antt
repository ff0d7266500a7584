-- What is printed of a line is read back as that line.
use Rattle.std.specs.Prelude.{◌≡◌, ℕ, ◌^◌, ◌<◌, ◌≤◌, List, length, Ok}
use Rattle.text.specs.Data.{most, encode}
use Rattle.text.specs.Back.{Bytes}
use Rattle.script.specs.declared.line.Call.{Call}
use Rattle.script.specs.declared.line.Call.TheVariants.{Listen, Open, Accept, Give, Take, Close, Break, State, Due, Answer, Send, Forget}
use Rattle.script.specs.declared.line.Line.{Line}
use Rattle.script.specs.declared.line.Line.TheVariants.{Blank, Settings, Act, Bring, Damage, Drive, Tick}
use Rattle.script.specs.Parse.{parse}
use Rattle.script.specs.Lines.{words_of}
use Rattle.script.specs.Show.{shown}

-- at most 1,024 bytes, encoded
pub record IsData (word : List ℕ) : Type 0 where
  pub decoded : List ℕ
  pub bytes : Bytes decoded
  pub few : length decoded ≤ most
  pub is : word ≡ encode decoded

abbrev pub Fits64 : ℕ → Type 0
Fits64 n = n < 2 ^ 64

-- numbers are of their types, as those of every value of the code are, and what is given is data
abbrev pub CallFits : Call → Type 0
CallFits (Listen on) = Unit {0}
CallFits (Open tag) = Fits64 tag
CallFits Accept = Unit {0}
CallFits (Give tag encoded) = Fits64 tag × IsData encoded.now
CallFits (Take tag count) = Fits64 tag × Fits64 count
CallFits (Close tag) = Fits64 tag
CallFits (Break tag) = Fits64 tag
CallFits (State tag) = Fits64 tag
CallFits (Due tag) = Fits64 tag
CallFits (Answer tag) = Fits64 tag
CallFits (Send tag place count) = Fits64 tag × Fits64 place × Fits64 count
CallFits (Forget tag) = Fits64 tag

abbrev pub LineFits : Line → Type 0
LineFits Blank = Unit {0}
LineFits (Settings room size) = Fits64 room × Fits64 size
LineFits (Act side call) = CallFits call
LineFits (Bring to which tag) = Fits64 which × Fits64 tag
LineFits (Damage to which byte mask tag) = Fits64 which × Fits64 byte × (mask < 256) × Fits64 tag
LineFits (Drive side tag) = Fits64 tag
LineFits (Tick count) = Fits64 count

abbrev pub ReadBack : Type 0
ReadBack = (l : Line) → LineFits l → parse (shown l) ≡ Ok (words_of l)
