-- Waiting times, and texts by the clock.
use Rattle.std.proofs.Common.{◌≡◌, ℕ, ◌<◌, true, ◌⊎◌, [], ◌∷◌, Some, None, Option, ⊎_elim, arith}
use Rattle.std.proofs.lemmas.Bool.{cond_both}
use Rattle.std.proofs.lemmas.Bool.Decides.{nat_tests}
use Rattle.timer.specs.declared.measures.Measures.{Measures}
use Rattle.timer.specs.Measure.{Timely, waiting, doubled}
use Rattle.timer.specs.Flight.{measured_by}
use Rattle.pacing.specs.declared.clock.Clock.{Clock}
use Rattle.pacing.specs.declared.next.Pending.{Pending}
use Rattle.pacing.specs.declared.numbers.Choice.{Choice}
use Rattle.pacing.specs.declared.numbers.Numbers.{Numbers}
use Rattle.pacing.specs.declared.numbers.Why.{Why}
use Rattle.pacing.specs.Text.{count, is_last}
use Rattle.pacing.specs.Clock.{restarted, sent_text}
use Rattle.pacing.specs.Next.{next_text}
use Rattle.pacing.specs.Promises.{Happens, happened, Came, Opened, Owing, Heard, Sent, clock_after, AlwaysTimely, OwesSpeaks, ClockCarries, ClockRestarts}

waiting_timely : (m : Option Measures) → Timely (waiting m)
waiting_timely None = (omega arith, omega arith)
waiting_timely (Some m) = (omega arith, omega arith)

doubled_timely : (w : ℕ) → Timely w → Timely (doubled w)
doubled_timely w h = (omega arith, omega arith)

happens_timely : (h : Happens) (c : Clock) → Timely c.wait → Timely (happened h c).wait
happens_timely (Came now) c t = t
happens_timely (Opened now) c t = t
happens_timely (Owing a b now) c t = cond_both _ (restarted now c) c (λ d. Timely d.wait) (λ _. t) (λ _. t)
happens_timely (Heard a b now) c t = cond_both _ _ c (λ d. Timely d.wait) (λ _. waiting_timely (measured_by b now c.measures c.flight.rows)) (λ _. t)
happens_timely (Sent n x now) c t = (grind (arith, nat_tests), grind (arith, nat_tests))

pub always_timely : AlwaysTimely
unfolding clock_after
always_timely start [] = (omega arith, omega arith)
always_timely start (h ∷ hs) = happens_timely h (clock_after start hs) (always_timely start hs)

pub owes-speaks : OwesSpeaks
owes-speaks n start hs now o l = let t = always_timely start hs in grind (arith, nat_tests)

pub clock_carries : ClockCarries
clock_carries n c now t l e = grind (arith, nat_tests)

tick_why : (n : Numbers) (c : Clock) (now : ℕ) (t : Choice) → next_text n c (Some Pending.Tick) now ≡ Some t → t.why ≡ Why.Clock
tick_why n c now t e = grind (arith, nat_tests)

clock_doubles : (n : Numbers) (c : Clock) (now : ℕ) (t : Choice) → t.why ≡ Why.Clock → (sent_text n t now c).wait ≡ doubled c.wait
clock_doubles n c now t e = grind (arith, nat_tests)

carries_since : (n : Numbers) (c : Clock) (now : ℕ) (t : Choice) → (0 < count n t) ⊎ (is_last n t ≡ true) → (sent_text n t now c).since ≡ now
carries_since n c now t k = ⊎_elim (λ b. grind (arith, nat_tests)) (λ b. grind (arith, nat_tests)) k

pub clock_restarts : ClockRestarts
clock_restarts n c now t l e = (carries_since n c now t (clock_carries n c now t l e), clock_doubles n c now t (tick_why n c now t e))
