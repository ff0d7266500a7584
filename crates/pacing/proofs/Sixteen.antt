-- A connection that sends by the rules makes only moves that sixteen rows are enough for.
use Rattle.std.proofs.Common.{◌≡◌, ℕ, ◌<◌, ◌≤◌, max, Bool, true, false, cond, ltb, ◌⊎◌, List, [], ◌∷◌, map, length, replicate, Some, None, Option, sym, refl, ap, ◌∙◌, subst, inl, inr, ⊎_elim, arith}
use Rattle.std.proofs.lemmas.Bool.{cond_both, ltb-true}
use Rattle.std.proofs.lemmas.Bool.Decides.{nat_tests}
use Rattle.timer.specs.Flight.{blank, settled, sent_rows, full}
use Rattle.timer.specs.Enough.{Move, Sends, Clears, Confirms, way_after, held_after, Allowed, Lawful, Enough}
use Rattle.timer.proofs.Enough.{sixteen_suffice_lem}
use Rattle.pacing.specs.declared.numbers.Choice.{Choice}
use Rattle.pacing.specs.declared.numbers.Numbers.{Numbers}
use Rattle.pacing.specs.declared.numbers.Why.{Why}
use Rattle.pacing.specs.declared.clock.Clock.{Clock}
use Rattle.pacing.specs.declared.next.Pending.{Pending}
use Rattle.pacing.specs.declared.next.Pending.TheVariants.{Answer, AnswerThenSpeak, Speak, Due, Tick}
use Rattle.pacing.specs.Text.{end_of, due}
use Rattle.pacing.specs.Clock.{restarted, sent_text, heard, is_clock, by_clock}
use Rattle.pacing.specs.Next.{new_text, next_text}
use Rattle.pacing.specs.Promises.{Happens, Came, Opened, Owing, Heard, Sent, happened, clock_after}
use Rattle.pacing.specs.UnderWay.{move_by, confirmed, cleared, sending, moves_of, ByRule, Ruled, RowsEnough, NewWhenFew}

speaks_either : (n : Numbers) (c : Clock) (now : ℕ) (t : Choice) → next_text n c (Some Speak) now ≡ Some t → (new_text n c ≡ Some t) ⊎ (t ≡ due n Why.Due)
speaks_either n c now t e = go (new_text n c) refl
  where
    go : (o : Option Choice) → new_text n c ≡ o → (new_text n c ≡ Some t) ⊎ (t ≡ due n Why.Due)
    go (Some x) f = inl (grind (arith, nat_tests))
    go None f = inr (grind (arith, nat_tests))

new_begins : (n : Numbers) (c : Clock) (t : Choice) → new_text n c ≡ Some t → (n.upto ≤ t.place) × (full n.upto c.flight.rows ≡ false) × (is_clock t.why ≡ false)
new_begins n c t e = (grind (arith, nat_tests), grind (arith, nat_tests), grind (arith, nat_tests))

-- where it begins: at the first byte that isn't confirmed, or it is new
begins : (n : Numbers) (c : Clock) (p : Option Pending) (now : ℕ) (t : Choice) → next_text n c p now ≡ Some t → (t.place ≡ n.upto) ⊎ ((n.upto ≤ t.place) × (full n.upto c.flight.rows ≡ false) × (is_clock t.why ≡ false))
begins n c None now t e = grind (arith, nat_tests)
begins n c (Some Answer) now t e = inl (grind (arith, nat_tests))
begins n c (Some AnswerThenSpeak) now t e = inl (grind (arith, nat_tests))
begins n c (Some Speak) now t e = ⊎_elim (λ f. inr (new_begins n c t f)) (λ q. inl (ap (λ x. x.place) q)) (speaks_either n c now t e)
begins n c (Some Due) now t e = inl (grind (arith, nat_tests))
begins n c (Some Tick) now t e = inl (grind (arith, nat_tests))

-- a clock has the rows and the mark of some moves
record Has (c : Clock) (ms : List Move) : Type 0 where
  rows : c.flight.rows ≡ held_after ms
  high : c.high ≡ (way_after ms).high
  lawful : Lawful ms

has_enough : (c : Clock) (ms : List Move) → Has c ms → Enough (way_after ms) c.flight.rows
has_enough c ms h = subst (Enough (way_after ms)) (sym h.rows) (sixteen_suffice_lem ms h.lawful)

-- fewer than sixteen are under way, if the rows say so
few : (u : ℕ) (c : Clock) (ms : List Move) → Has c ms → u ≡ (way_after ms).upto → full u c.flight.rows ≡ false → length (way_after ms).rows < 16
few u c ms h q f = let e = (has_enough c ms h).few in let g = ap (λ v. full v c.flight.rows) q in grind (arith, nat_tests)

has_clears : (c d : Clock) (ms : List Move) → Has c ms → d.flight.rows ≡ replicate 16 blank → d.high ≡ c.high → Has d (Clears ∷ ms)
unfolding way_after held_after Lawful
has_clears c d ms h r q = record { rows = r; high = q ∙ h.high; lawful = (tt, h.lawful) }

has-sends : (p e now : ℕ) (c d : Clock) (ms : List Move) → Has c ms → Allowed (Sends p e now) (way_after ms) → d.flight.rows ≡ sent_rows c.high p e now c.flight.rows → d.high ≡ max c.high e → Has d (Sends p e now ∷ ms)
unfolding way_after held_after Lawful
has-sends p e now c d ms h a r q = record {
  rows = r ∙ ap (λ x. sent_rows x p e now c.flight.rows) h.high ∙ ap (λ x. sent_rows (way_after ms).high p e now x) h.rows;
  high = q ∙ ap (λ x. max x e) h.high;
  lawful = (a, h.lawful);
}

has_confirms : (u : ℕ) (c d : Clock) (ms : List Move) → Has c ms → (way_after ms).upto < u → d.flight.rows ≡ map (settled u) c.flight.rows → d.high ≡ c.high → Has d (Confirms u ∷ ms)
unfolding way_after held_after Lawful
has_confirms u c d ms h l r q = let m : max (way_after ms).upto u ≡ u = omega arith in record {
  rows = r ∙ ap (map (settled u)) h.rows ∙ ap (λ v. map (settled v) (held_after ms)) (sym m);
  high = q ∙ h.high;
  lawful = (tt, h.lawful);
}

-- as it is before a text's bytes count
abbrev before : Choice → Clock → Clock
before t c = cond (is_clock t.why) (by_clock c) c

has-before : (t : Choice) (c : Clock) (ms : List Move) → Has c ms → Has (before t c) (cleared t ms)
has-before t c ms h = go (is_clock t.why)
  where
    go : (b : Bool) → Has (cond b (by_clock c) c) (cond b (Clears ∷ ms) ms)
    go true = has_clears c (by_clock c) ms h refl refl
    go false = h

cleared_upto : (t : Choice) (ms : List Move) → (way_after (cleared t ms)).upto ≡ (way_after ms).upto
unfolding way_after
cleared_upto t ms = cond_both (is_clock t.why) (Clears ∷ ms) ms (λ x. (way_after x).upto ≡ (way_after ms).upto) (λ _. refl) (λ _. refl)

allowed : (n : Numbers) (c : Clock) (p : Option Pending) (now : ℕ) (t : Choice) (ms : List Move) → Has c ms → n.upto ≡ (way_after ms).upto → next_text n c p now ≡ Some t → t.place < end_of n t → Allowed (Sends t.place (end_of n t) now) (way_after (cleared t ms))
allowed n c p now t ms h q e l = ⊎_elim
    (λ a. let u = cleared_upto t ms in (omega arith, l, inl (a ∙ q ∙ sym u)))
    (λ (a, f, k). let u = cleared_upto t ms in (omega arith, l, inr (subst (λ x. length (way_after x).rows < 16) (ap (λ b. cond b (Clears ∷ ms) ms) (sym k)) (few n.upto c ms h q f))))
    (begins n c p now t e)

has-sent : (n : Numbers) (c : Clock) (p : Option Pending) (now : ℕ) (t : Choice) (ms : List Move) → Has c ms → n.upto ≡ (way_after ms).upto → next_text n c p now ≡ Some t → Has (sent_text n t now c) (sending n t now (cleared t ms))
has-sent n c p now t ms h q e = go (ltb t.place (end_of n t)) refl
  where
    go : (b : Bool) → ltb t.place (end_of n t) ≡ b → Has (sent_text n t now c) (cond b (Sends t.place (end_of n t) now ∷ cleared t ms) (cleared t ms))
    go true l = has-sends t.place (end_of n t) now (before t c) (sent_text n t now c) (cleared t ms) (has-before t c ms h) (allowed n c p now t ms h q e (ltb-true _ _ l)) (grind (arith, nat_tests)) (grind (arith, nat_tests))
    go false l = let k = has-before t c ms h in let r : (sent_text n t now c).flight.rows ≡ (before t c).flight.rows = grind (arith, nat_tests) in let m : (sent_text n t now c).high ≡ (before t c).high = grind (arith, nat_tests) in
        record { rows = r ∙ k.rows; high = m ∙ k.high; lawful = k.lawful }

has-heard : (b u now : ℕ) (c : Clock) (ms : List Move) → Has c ms → b ≡ (way_after ms).upto → Has (heard b u now c) (confirmed b u ms)
has-heard b u now c ms h q = go (ltb b u) refl
  where
    go : (d : Bool) → ltb b u ≡ d → Has (heard b u now c) (cond d (Confirms u ∷ ms) ms)
    go true l = let m = ltb-true b u l in has_confirms u c (heard b u now c) ms h (omega arith) (grind (arith, nat_tests)) (grind (arith, nat_tests))
    go false l = let r : heard b u now c ≡ c = grind (arith, nat_tests) in subst (λ x. Has x ms) (sym r) h

has : (start : ℕ) (hs : List Happens) → Ruled start hs → Has (clock_after start hs) (moves_of hs)
unfolding clock_after moves_of Ruled way_after held_after Lawful
has start [] r = record { rows = refl; high = refl; lawful = tt }
has start (h ∷ hs) (b, r) = by h b (has start hs r)
  where
    by : (h : Happens) → ByRule start h hs → Has (clock_after start hs) (moves_of hs) → Has (happened h (clock_after start hs)) (move_by h (moves_of hs))
    by (Came now) b k = record { rows = k.rows; high = k.high; lawful = k.lawful }
    by (Opened now) b k = record { rows = k.rows; high = k.high; lawful = k.lawful }
    by (Owing x y now) b k = cond_both _ (restarted now (clock_after start hs)) (clock_after start hs) (λ c. Has c (moves_of hs)) (λ _. record { rows = k.rows; high = k.high; lawful = k.lawful }) (λ _. k)
    by (Heard x y now) b k = has-heard x y now (clock_after start hs) (moves_of hs) k b
    by (Sent n t now) (q, (p, e)) k = has-sent n (clock_after start hs) p now t (moves_of hs) k q e

pub rows_enough : RowsEnough
rows_enough start hs r = has_enough (clock_after start hs) (moves_of hs) (has start hs r)

pub new_when_few : NewWhenFew
new_when_few start hs n t r q e = few n.upto (clock_after start hs) (moves_of hs) (has start hs r) q (new_begins n (clock_after start hs) t e).1
