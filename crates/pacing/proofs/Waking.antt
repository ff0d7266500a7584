-- Ticks at which nothing happens, and the next at which something does.
use Rattle.std.proofs.Common.{◌≡◌, ℕ, ◌<◌, ◌≤◌, Bool, true, false, None, refl, arith}
use Rattle.std.proofs.lemmas.Bool.Decides.{nat_tests}
use Rattle.timer.specs.Measure.{Timely}
use Rattle.timer.specs.Opening.{last_tick}
use Rattle.pacing.specs.declared.numbers.Numbers.{Numbers}
use Rattle.pacing.specs.declared.numbers.Stage.{Stage}
use Rattle.pacing.specs.declared.numbers.Stage.TheVariants.{Opening, Open, Gone}
use Rattle.pacing.specs.declared.clock.Clock.{Clock}
use Rattle.pacing.specs.Text.{owes, finished}
use Rattle.pacing.specs.Tick.{tick_in, open_tick, wake_in, wake_at, soonest, quiet}
use Rattle.pacing.specs.Promises.{Before, Sleeps, Wakes, Finished, OpeningMoments}

open_sleeps : (n : Numbers) (c : Clock) (now t : ℕ) → Timely c.wait → now < t → t ≤ last_tick → (f o : Bool) → finished n ≡ f → owes n ≡ o → Before t (soonest f (wake_at now c.touched quiet) o (wake_at now c.since c.wait)) → open_tick n c t ≡ None
open_sleeps n c now t w l k true true p q b = grind (arith, nat_tests)
open_sleeps n c now t w l k true false p q b = grind (arith, nat_tests)
open_sleeps n c now t w l k false true p q b = grind (arith, nat_tests)
open_sleeps n c now t w l k false false p q b = grind (arith, nat_tests)

sleeps_in : (s : Stage) (n : Numbers) (c : Clock) (now t : ℕ) → Timely c.wait → now < t → t ≤ last_tick → Before t (wake_in s n c now) → tick_in s n c t ≡ None
sleeps_in Opening n c now t w l k b = grind (arith, nat_tests)
sleeps_in Open n c now t w l k b = open_sleeps n c now t w l k (finished n) (owes n) refl refl b
sleeps_in Gone n c now t w l k b = refl

pub sleeps : Sleeps
sleeps n c now t w l k b = sleeps_in n.stage n c now t w l k b

pub wakes : Wakes
wakes n c now w e l = (grind (arith, nat_tests), λ z. grind (arith, nat_tests))

pub finishes : Finished
finishes n c now o = ((λ f l. grind (arith, nat_tests)), λ a. (grind (arith, nat_tests), grind (arith, nat_tests)))

pub opening_moments : OpeningMoments
opening_moments n c later o = ((λ a. grind (arith, nat_tests)), (λ a. grind (arith, nat_tests)), (λ l. grind (arith, nat_tests)))
