-- The texts of one moment, one after the other.
use Rattle.std.proofs.Common.{◌≡◌, ℕ, zero, suc, ◌-◌, ◌<◌, ◌≤◌, min, max, Bool, true, false, cond, ◌||◌, ltb, ◌⊎◌, List, [], ◌∷◌, length, Some, None, Option, refl, ap, ◌∙◌, inl, inr, ⊎_elim, arith}
use Rattle.std.proofs.lemmas.List.{length-map, length-replicate}
use Rattle.std.proofs.lemmas.Bool.{cond_both, cases_lt}
use Rattle.std.proofs.lemmas.Bool.Decides.{nat_tests}
use Rattle.timer.specs.declared.flight.Row.{Row}
use Rattle.timer.specs.Flight.{sent_rows, full}
use Rattle.timer.proofs.Counts.{above}
use Rattle.timer.proofs.Ordered.{Ordered, ordered_sent, ordered_settled, ordered_blank, above-sent, full-above, full_stays}
use Rattle.pacing.specs.declared.numbers.Choice.{Choice}
use Rattle.pacing.specs.declared.numbers.Numbers.{Numbers}
use Rattle.pacing.specs.declared.numbers.Why.{Why}
use Rattle.pacing.specs.declared.clock.Clock.{Clock}
use Rattle.pacing.specs.declared.next.Pending.{Pending}
use Rattle.pacing.specs.declared.next.Pending.TheVariants.{Answer, AnswerThenSpeak, Speak, Due, Tick}
use Rattle.pacing.specs.Text.{end_of, is_last, due}
use Rattle.pacing.specs.Clock.{restarted, sent_text, saying, by_clock, with_bytes, with_last, is_clock}
use Rattle.pacing.specs.Next.{new_of, new_text, next_text, up_to_date, after}
use Rattle.pacing.specs.Promises.{Happens, happened, Came, Opened, Owing, Heard, Sent, clock_after}
use Rattle.pacing.specs.Moment.{list_from, texts, whys, UpTo, Goes, OneMoment, AtMostSeventeen}
use Rattle.pacing.proofs.Saying.{says_all, silent}

abbrev Flying : Clock → Type 0
Flying c = Ordered c.flight.rows

flying_sent : (n : Numbers) (t : Choice) (now : ℕ) (c : Clock) → Flying c → Flying (sent_text n t now c)
flying_sent n t now c o =
    let a = saying n c in
    let b = cond (is_clock t.why) (by_clock a) a in
    let d = cond (ltb t.place (end_of n t)) (with_bytes n.sees t.place (end_of n t) now b) b in
    let ob : Flying b = cond_both (is_clock t.why) (by_clock a) a Flying (λ _. ordered_blank) (λ _. o) in
    let od : Flying d = cond_both (ltb t.place (end_of n t)) (with_bytes n.sees t.place (end_of n t) now b) b Flying (λ _. ordered_sent b.high t.place (end_of n t) now b.flight.rows ob) (λ _. ob) in
    cond_both (is_last n t) (with_last now d) d Flying (λ _. od) (λ _. od)

flying_happened : (h : Happens) (c : Clock) → Flying c → Flying (happened h c)
flying_happened (Came now) c o = o
flying_happened (Opened now) c o = o
flying_happened (Owing a b now) c o = cond_both _ (restarted now c) c Flying (λ _. o) (λ _. o)
flying_happened (Heard a b now) c o = cond_both _ _ c Flying (λ _. ordered_settled b c.flight.rows o) (λ _. o)
flying_happened (Sent n t now) c o = flying_sent n t now c o

flying : (start : ℕ) (hs : List Happens) → Flying (clock_after start hs)
unfolding clock_after
flying start [] = ordered_blank
flying start (h ∷ hs) = flying_happened h (clock_after start hs) (flying start hs)

-- a new text goes out only while not all sixteen rows are under way
new-free : (n : Numbers) (c : Clock) (t : Choice) → new_text n c ≡ Some t → (full n.upto c.flight.rows ≡ false) × (t.why ≡ Why.New)
new-free n c t e = (grind (arith, nat_tests), grind (arith, nat_tests))

new_with : (n : Numbers) (c : Clock) (s : ℕ) (b : Bool) (rows : List Row) → c.sent ≡ s → c.ended ≡ b → c.flight.rows ≡ rows → new_text n c ≡ new_of n s b rows
new_with n c s b rows p q r = ap (λ x. new_of n x c.ended c.flight.rows) p ∙ ap (λ x. new_of n s x c.flight.rows) q ∙ ap (λ x. new_of n s b x) r

sent-ended : (n : Numbers) (c : Clock) (t : Choice) (now : ℕ) → (sent_text n t now c).ended ≡ (c.ended || is_last n t)
sent-ended n c t now = grind (arith, nat_tests)

sent-sent : (n : Numbers) (c : Clock) (t : Choice) (now : ℕ) → t.place < end_of n t → (sent_text n t now c).sent ≡ max c.sent (min (end_of n t) n.sees)
sent-sent n c t now l = grind (arith, nat_tests)

sent-rows : (n : Numbers) (c : Clock) (t : Choice) (now : ℕ) → is_clock t.why ≡ false → t.place < end_of n t → (sent_text n t now c).flight.rows ≡ sent_rows c.high t.place (end_of n t) now c.flight.rows
sent-rows n c t now e l = grind (arith, nat_tests)

-- a text without bytes
bare-sent : (n : Numbers) (c : Clock) (t : Choice) (now : ℕ) → end_of n t ≤ t.place → (sent_text n t now c).sent ≡ c.sent
bare-sent n c t now l = grind (arith, nat_tests)

bare_rows : (n : Numbers) (c : Clock) (t : Choice) (now : ℕ) → is_clock t.why ≡ false → end_of n t ≤ t.place → (sent_text n t now c).flight.rows ≡ c.flight.rows
bare_rows n c t now e l = grind (arith, nat_tests)

-- it has bytes beyond what is confirmed, or it is the end, after which nothing is new
new_then : (n : Numbers) (c : Clock) (t : Choice) (now : ℕ) → new_text n c ≡ Some t → ((t.place < end_of n t) × (n.upto < end_of n t)) ⊎ (new_text n (sent_text n t now c) ≡ None)
new_then n c t now e = ⊎_elim (λ l. inl (l, grind (arith, nat_tests))) (λ l. inr (after-end l)) (cases_lt t.place (end_of n t))
  where
    after-end : end_of n t ≤ t.place → new_text n (sent_text n t now c) ≡ None
    after-end l = new_with n (sent_text n t now c) c.sent (c.ended || is_last n t) c.flight.rows (bare-sent n c t now l) (sent-ended n c t now) (bare_rows n c t now (grind (arith, nat_tests)) l) ∙ (grind (arith, nat_tests))

due_none : (n : Numbers) (c : Clock) (rows : List Row) → full n.upto c.flight.rows ≡ false → new_text n c ≡ None → n.upto < end_of n (due n Why.Due) → new_of n (max c.sent (min (end_of n (due n Why.Due)) n.sees)) (c.ended || is_last n (due n Why.Due)) rows ≡ None
due_none n c rows f e l = grind (arith, nat_tests)

full_none : (n : Numbers) (s : ℕ) (b : Bool) (rows : List Row) → full n.upto rows ≡ true → new_of n s b rows ≡ None
full_none n s b rows f = grind (arith, nat_tests)

still_none : (n : Numbers) (c : Clock) (now : ℕ) → Flying c → new_text n c ≡ None → n.upto < end_of n (due n Why.Due) → (f : Bool) → full n.upto c.flight.rows ≡ f →
    new_of n (max c.sent (min (end_of n (due n Why.Due)) n.sees)) (c.ended || is_last n (due n Why.Due)) (sent_rows c.high n.upto (end_of n (due n Why.Due)) now c.flight.rows) ≡ None
still_none n c now o e l true f = full_none n _ _ (sent_rows c.high n.upto (end_of n (due n Why.Due)) now c.flight.rows) (full_stays n.upto c.high n.upto (end_of n (due n Why.Due)) now c.flight.rows o l f)
still_none n c now o e l false f = due_none n c (sent_rows c.high n.upto (end_of n (due n Why.Due)) now c.flight.rows) f e l

due_then : (n : Numbers) (c : Clock) (now : ℕ) → Flying c → new_text n c ≡ None → new_text n (sent_text n (due n Why.Due) now c) ≡ None
due_then n c now o e = ⊎_elim bytes bare (cases_lt (due n Why.Due).place (end_of n (due n Why.Due)))
  where
    bytes : (due n Why.Due).place < end_of n (due n Why.Due) → new_text n (sent_text n (due n Why.Due) now c) ≡ None
    bytes l = new_with n (sent_text n (due n Why.Due) now c) (max c.sent (min (end_of n (due n Why.Due)) n.sees)) (c.ended || is_last n (due n Why.Due)) (sent_rows c.high n.upto (end_of n (due n Why.Due)) now c.flight.rows)
        (sent-sent n c (due n Why.Due) now l) (sent-ended n c (due n Why.Due) now) (sent-rows n c (due n Why.Due) now refl l) ∙ still_none n c now o e l (full n.upto c.flight.rows) refl

    bare : end_of n (due n Why.Due) ≤ (due n Why.Due).place → new_text n (sent_text n (due n Why.Due) now c) ≡ None
    bare l = new_with n (sent_text n (due n Why.Due) now c) c.sent (c.ended || is_last n (due n Why.Due)) c.flight.rows (bare-sent n c (due n Why.Due) now l) (sent-ended n c (due n Why.Due) now) (bare_rows n c (due n Why.Due) now refl l) ∙ (grind (arith, nat_tests))

-- nothing more goes out
silent_from : (k : ℕ) (n : Numbers) (c : Clock) (p : Option Pending) (now : ℕ) → next_text n c p now ≡ None → texts k n c p now ≡ []
unfolding texts
silent_from zero n c p now e = refl
silent_from (suc k) n c p now e = ap (λ o. list_from o (λ t. texts k n (sent_text n t now c) (after p) now)) e

next_is : (k : ℕ) (n : Numbers) (c : Clock) (p : Option Pending) (now : ℕ) (t : Choice) → next_text n c p now ≡ Some t → texts (suc k) n c p now ≡ t ∷ texts k n (sent_text n t now c) (after p) now
unfolding texts
next_is k n c p now t e = ap (λ o. list_from o (λ t. texts k n (sent_text n t now c) (after p) now)) e

next_none : (n : Numbers) (c : Clock) (now : ℕ) → new_text n c ≡ None → up_to_date n c ≡ true → next_text n c (Some Speak) now ≡ None
next_none n c now e u = grind (arith, nat_tests)

next-new : (n : Numbers) (c : Clock) (now : ℕ) (t : Choice) → next_text n c (Some Speak) now ≡ Some t → up_to_date n c ≡ true → new_text n c ≡ Some t
next-new n c now t e u = grind (arith, nat_tests)

-- a new text, and those after it
abbrev After : ℕ → Numbers → Clock → ℕ → Type 0
After k n c now = UpTo (16 - above n.upto c.flight.rows) Why.New (whys (texts k n c (Some Speak) now))

new_more : (k : ℕ) (n : Numbers) (c : Clock) (now : ℕ) (t : Choice) → Flying c → new_text n c ≡ Some t → After k n (sent_text n t now c) now → UpTo (16 - above n.upto c.flight.rows) Why.New (whys (t ∷ texts k n (sent_text n t now c) (Some Speak) now))
new_more k n c now t o e (j, l, q) = ⊎_elim bytes last (new_then n c t now e)
  where
    few : above n.upto c.flight.rows < 16
    few = let f = (new-free n c t e).0 in let a = full-above n.upto c.flight.rows o in grind (arith, nat_tests)

    bytes : (t.place < end_of n t) × (n.upto < end_of n t) → UpTo (16 - above n.upto c.flight.rows) Why.New (whys (t ∷ texts k n (sent_text n t now c) (Some Speak) now))
    bytes (a, b) =
        let w = (new-free n c t e).1 in
        let r = ap (above n.upto) (sent-rows n c t now (ap is_clock w) a) ∙ above-sent n.upto c.high t.place (end_of n t) now c.flight.rows o b in
        let h = few in
        (suc j, omega arith, cc)

    last : new_text n (sent_text n t now c) ≡ None → UpTo (16 - above n.upto c.flight.rows) Why.New (whys (t ∷ texts k n (sent_text n t now c) (Some Speak) now))
    last z =
        let w = (new-free n c t e).1 in
        let r = ap whys (silent_from k n (sent_text n t now c) (Some Speak) now (next_none n (sent_text n t now c) now z (says_all n c t now))) in
        let h = few in
        (1, omega arith, cc)

-- one whose last text is up to date sends new texts, as many as there are rows free
news : (k : ℕ) (n : Numbers) (c : Clock) (now : ℕ) → Flying c → up_to_date n c ≡ true → After k n c now
unfolding texts
news zero n c now o u = (0, omega arith, refl)
news (suc k) n c now o u = go (next_text n c (Some Speak) now) refl (λ t. news k n (sent_text n t now c) now (flying_sent n t now c o) (says_all n c t now))
  where
    go : (r : Option Choice) → next_text n c (Some Speak) now ≡ r → ((t : Choice) → After k n (sent_text n t now c) now) → After (suc k) n c now
    go None e more = (0, omega arith, ap whys (silent_from (suc k) n c (Some Speak) now e))
    go (Some t) e more = let (j, l, q) = new_more k n c now t o (next-new n c now t e u) (more t) in (j, l, ap whys (next_is k n c (Some Speak) now t e) ∙ q)

-- a text, and nothing after it
single : (k : ℕ) (n : Numbers) (c : Clock) (p : Option Pending) (now : ℕ) (why : Why) → after p ≡ None → ((t : Choice) → next_text n c p now ≡ Some t → t.why ≡ why) → UpTo 1 why (whys (texts k n c p now))
unfolding texts
single zero n c p now why a f = (0, omega arith, refl)
single (suc k) n c p now why a f = go (next_text n c p now) refl
  where
    go : (r : Option Choice) → next_text n c p now ≡ r → UpTo 1 why (whys (texts (suc k) n c p now))
    go None e = (0, omega arith, ap whys (silent_from (suc k) n c p now e))
    go (Some t) e = let r = ap whys (next_is k n c p now t e) in let w = f t e in
        let z = ap (λ x. whys (texts k n (sent_text n t now c) x now)) a in
        let s = ap whys (silent_from k n (sent_text n t now c) None now (silent n (sent_text n t now c) now).0) in (1, omega arith, cc)

-- after the answer, new texts
answer_news : (k : ℕ) (n : Numbers) (c : Clock) (now : ℕ) → Flying c → Goes (Some AnswerThenSpeak) (whys (texts k n c (Some AnswerThenSpeak) now))
unfolding texts
answer_news zero n c now o = inl refl
answer_news (suc k) n c now o = go (next_text n c (Some AnswerThenSpeak) now) refl
  where
    go : (r : Option Choice) → next_text n c (Some AnswerThenSpeak) now ≡ r → Goes (Some AnswerThenSpeak) (whys (texts (suc k) n c (Some AnswerThenSpeak) now))
    go None e = inl (ap whys (silent_from (suc k) n c (Some AnswerThenSpeak) now e))
    go (Some t) e = let (j, l, q) = news k n (sent_text n t now c) now (flying_sent n t now c o) (says_all n c t now) in
        let r = ap whys (next_is k n c (Some AnswerThenSpeak) now t e) in let w : t.why ≡ Why.Answer = grind (arith, nat_tests) in
        inr (whys (texts k n (sent_text n t now c) (Some Speak) now), cc, (j, omega arith, q))

-- new texts, or else the due one
new_or_due : (k : ℕ) (n : Numbers) (c : Clock) (now : ℕ) → Flying c → Goes (Some Speak) (whys (texts k n c (Some Speak) now))
unfolding texts
new_or_due zero n c now o = inl (0, omega arith, refl)
new_or_due (suc k) n c now o = go (next_text n c (Some Speak) now) refl (new_text n c) refl
  where
    go : (r : Option Choice) → next_text n c (Some Speak) now ≡ r → (m : Option Choice) → new_text n c ≡ m → Goes (Some Speak) (whys (texts (suc k) n c (Some Speak) now))
    go None e m f = inl (0, omega arith, ap whys (silent_from (suc k) n c (Some Speak) now e))
    go (Some t) e (Some x) f = let (j, l, q) = new_more k n c now x o f (news k n (sent_text n x now c) now (flying_sent n x now c o) (says_all n c x now)) in
        let same : next_text n c (Some Speak) now ≡ Some x = grind (arith, nat_tests) in
        inl (j, omega arith, ap whys (next_is k n c (Some Speak) now x same) ∙ q)
    go (Some t) e None f = let same : next_text n c (Some Speak) now ≡ Some (due n Why.Due) = grind (arith, nat_tests) in
        inr (ap whys (next_is k n c (Some Speak) now (due n Why.Due) same) ∙ ap (λ ts. whys (due n Why.Due ∷ ts)) (silent_from k n (sent_text n (due n Why.Due) now c) (Some Speak) now (next_none n (sent_text n (due n Why.Due) now c) now (due_then n c now o f) (says_all n c (due n Why.Due) now))))

goes : (k : ℕ) (n : Numbers) (c : Clock) (p : Option Pending) (now : ℕ) → Flying c → Goes p (whys (texts k n c p now))
goes k n c None now o = ap whys (silent_from k n c None now (silent n c now).0)
goes k n c (Some Answer) now o = single k n c (Some Answer) now Why.Answer refl (λ t e. grind (arith, nat_tests))
goes k n c (Some AnswerThenSpeak) now o = answer_news k n c now o
goes k n c (Some Speak) now o = new_or_due k n c now o
goes k n c (Some Due) now o = single k n c (Some Due) now Why.Due refl (λ t e. grind (arith, nat_tests))
goes k n c (Some Tick) now o = single k n c (Some Tick) now Why.Clock refl (λ t e. grind (arith, nat_tests))

pub one_moment : OneMoment
one_moment start hs k n p now = goes k n (clock_after start hs) p now (flying start hs)

up_to_few : (m : ℕ) (why : Why) (ws : List Why) → UpTo m why ws → length ws ≤ m
up_to_few m why ws (j, l, e) = let a = ap length e in let b = length-replicate j why in omega arith

goes_few : (p : Option Pending) (ws : List Why) → Goes p ws → length ws ≤ 17
goes_few None ws e = let a = ap length e in omega arith
goes_few (Some Answer) ws u = let a = up_to_few 1 Why.Answer ws u in omega arith
goes_few (Some AnswerThenSpeak) ws g = ⊎_elim (λ e. let a = ap length e in omega arith) (λ (vs, e, u). let a = ap length e in let b = up_to_few 16 Why.New vs u in omega arith) g
goes_few (Some Speak) ws g = ⊎_elim (λ u. let a = up_to_few 16 Why.New ws u in omega arith) (λ e. let a = ap length e in omega arith) g
goes_few (Some Due) ws u = let a = up_to_few 1 Why.Due ws u in omega arith
goes_few (Some Tick) ws u = let a = up_to_few 1 Why.Clock ws u in omega arith

pub at_most_seventeen : AtMostSeventeen
at_most_seventeen start hs k n p now =
    let ts = texts k n (clock_after start hs) p now in let a = goes_few p (whys ts) (one_moment start hs k n p now) in let b = length-map ts (λ t. t.why) in omega arith
