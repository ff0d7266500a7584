-- All texts of one moment.
use Rattle.std.specs.Prelude.{◌≡◌, ℕ, zero, suc, ◌≤◌, ◌⊎◌, List, [], ◌∷◌, map, length, replicate, Some, None, Option}
use Rattle.pacing.specs.declared.numbers.Choice.{Choice}
use Rattle.pacing.specs.declared.numbers.Numbers.{Numbers}
use Rattle.pacing.specs.declared.numbers.Why.{Why}
use Rattle.pacing.specs.declared.clock.Clock.{Clock}
use Rattle.pacing.specs.declared.next.Pending.{Pending}
use Rattle.pacing.specs.declared.next.Pending.TheVariants.{Answer, AnswerThenSpeak, Speak, Due, Tick}
use Rattle.pacing.specs.Clock.{sent_text}
use Rattle.pacing.specs.Next.{next_text, after}
use Rattle.pacing.specs.Promises.{Happens, clock_after}

abbrev pub list_from : Option Choice → (Choice → List Choice) → List Choice
list_from None rest = []
list_from (Some t) rest = t ∷ rest t

-- asked so many times for the next text
unfoldable pub texts : ℕ → Numbers → Clock → Option Pending → ℕ → List Choice
texts zero n c p now = []
texts (suc k) n c p now = list_from (next_text n c p now) (λ t. texts k n (sent_text n t now c) (after p) now)

abbrev pub whys : List Choice → List Why
whys ts = map (λ t. t.why) ts

-- some, at most so many, and for one reason
abbrev pub UpTo : ℕ → Why → List Why → Type 0
UpTo most why ws = (j : ℕ) × (j ≤ most) × (ws ≡ replicate j why)

-- what goes out, in this order: the answer, then at most sixteen new texts; a due text only where nothing else does
abbrev pub Goes : Option Pending → List Why → Type 0
Goes None ws = ws ≡ []
Goes (Some Answer) ws = UpTo 1 Why.Answer ws
Goes (Some AnswerThenSpeak) ws = (ws ≡ []) ⊎ ((vs : List Why) × (ws ≡ Why.Answer ∷ vs) × UpTo 16 Why.New vs)
Goes (Some Speak) ws = UpTo 16 Why.New ws ⊎ (ws ≡ Why.Due ∷ [])
Goes (Some Due) ws = UpTo 1 Why.Due ws
Goes (Some Tick) ws = UpTo 1 Why.Clock ws

-- whatever happened before, and however often it is asked
abbrev pub OneMoment : Type 0
OneMoment = (start : ℕ) (hs : List Happens) (k : ℕ) (n : Numbers) (p : Option Pending) (now : ℕ) → Goes p (whys (texts k n (clock_after start hs) p now))

abbrev pub AtMostSeventeen : Type 0
AtMostSeventeen = (start : ℕ) (hs : List Happens) (k : ℕ) (n : Numbers) (p : Option Pending) (now : ℕ) → length (texts k n (clock_after start hs) p now) ≤ 17
