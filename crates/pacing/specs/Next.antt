-- Which text is next at a moment, and why.
use Rattle.std.specs.Prelude.{ℕ, ◌-◌, min, max, Bool, true, false, cond, not, ◌&&◌, List, Some, None, Option, ◌==◌, nat_lt}
use Rattle.timer.specs.declared.flight.Row.{Row}
use Rattle.timer.specs.Flight.{full}
use Rattle.pacing.specs.declared.numbers.Choice.{Choice}
use Rattle.pacing.specs.declared.numbers.Numbers.{Numbers}
use Rattle.pacing.specs.declared.numbers.Why.{Why}
use Rattle.pacing.specs.declared.clock.Said.{Said}
use Rattle.pacing.specs.declared.clock.Clock.{Clock}
use Rattle.pacing.specs.declared.next.Pending.{Pending}
use Rattle.pacing.specs.declared.next.Pending.TheVariants.{Answer, AnswerThenSpeak, Speak, Due, Tick}
use Rattle.pacing.specs.Text.{is_open, due, answer}
use Rattle.pacing.specs.Clock.{late}

-- what a text that came asks for, by whether it had bytes or last, and whether it brought a larger edge or upto
abbrev pub asked : Bool → Bool → Option Pending
asked true grew = Some (cond grew AnswerThenSpeak Answer)
asked false grew = cond grew (Some Speak) None

-- what is left after a text went out
abbrev pub after : Option Pending → Option Pending
after None = None
after (Some Answer) = None
after (Some AnswerThenSpeak) = Some Speak
after (Some Speak) = Some Speak
after (Some Due) = None
after (Some Tick) = None

-- the first place not sent yet, the bytes below `sent` having been
abbrev pub fresh : Numbers → ℕ → ℕ
fresh n sent = max sent n.upto

-- how many bytes from there on may be sent in one text
abbrev pub may : Numbers → ℕ → ℕ
may n sent = min (min n.size (n.sees - fresh n sent)) (n.given - fresh n sent)

-- all before the end was sent, and the end wasn't
abbrev pub end_left : Numbers → ℕ → Bool → Bool
end_left n sent ended = fresh n sent == n.given && n.closed && not n.all && not ended

abbrev pub new_of : Numbers → ℕ → Bool → List Row → Option Choice
new_of n sent ended rows =
    cond (full n.upto rows) None
    (cond (nat_lt 0 (may n sent)) (Some (record { place = fresh n sent; most = may n sent; why = Why.New }))
    (cond (end_left n sent ended) (Some (record { place = fresh n sent; most = 0; why = Why.New })) None))

abbrev pub new_text : Numbers → Clock → Option Choice
new_text n c = new_of n c.sent c.ended c.flight.rows

abbrev pub same : Bool → Bool → Bool
same a b = cond a b (not b)

abbrev pub said_is : Numbers → Option Said → Bool
said_is n None = false
said_is n (Some s) = s.edge == n.edge && same s.all n.reached

-- the last text said edge and all as they are
abbrev pub up_to_date : Numbers → Clock → Bool
up_to_date n c = said_is n c.said

abbrev pub or_else : Option Choice → Option Choice → Option Choice
or_else (Some t) u = Some t
or_else None u = u

abbrev pub speaks : Numbers → Clock → Option Choice
speaks n c = or_else (new_text n c) (cond (up_to_date n c) None (Some (due n Why.Due)))

abbrev pub wanted : Numbers → Clock → Option Pending → ℕ → Option Choice
wanted n c None now = None
wanted n c (Some Answer) now = Some (answer n)
wanted n c (Some AnswerThenSpeak) now = Some (answer n)
wanted n c (Some Speak) now = speaks n c
wanted n c (Some Due) now = Some (due n Why.Due)
wanted n c (Some Tick) now = cond (late n now c) (Some (due n Why.Clock)) None

abbrev pub next_text : Numbers → Clock → Option Pending → ℕ → Option Choice
next_text n c p now = cond (is_open n.stage) (wanted n c p now) None
