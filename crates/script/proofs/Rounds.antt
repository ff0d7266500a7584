-- What is printed of a line is read back as that line.
use Rattle.std.proofs.Common.{◌≡◌, ℕ, ◌-◌, ◌^◌, ◌<◌, ◌≤◌, cond, ◌&&◌, eqb, ltb, List, [], ◌∷◌, ◌++◌, length, Some, None, Ok, Err, decimal, Result, refl, ap, ◌∙◌, append-nil, arith}
use Rattle.std.proofs.lemmas.Bool.{cond-true, lt-ltb}
use Rattle.text.specs.Fronts.{and_then, strip, number}
use Rattle.text.specs.Data.{encode, run, whole, is_nil, fault_of, octet, most}
use Rattle.text.specs.Words.{choose, choose_from}
use Rattle.text.specs.Back.{Stops}
use Rattle.text.proofs.Rounds.{numbers_back, data_back}
use Rattle.script.specs.declared.line.Side.{Side}
use Rattle.script.specs.declared.line.Side.TheVariants.{L, R}
use Rattle.script.specs.declared.line.Call.{Call}
use Rattle.script.specs.declared.line.Call.TheVariants as call
use Rattle.script.specs.declared.line.Line.{Line}
use Rattle.script.specs.declared.line.Line.TheVariants as line
use Rattle.script.specs.declared.word.Switch.{Switch}
use Rattle.script.specs.declared.word.Switch.TheVariants.{On, Off}
use Rattle.script.specs.declared.word.Verb.{Verb}
use Rattle.script.specs.declared.word.Verb.TheVariants.{Listen, Open, Accept, Give, Take, Close, Break, State, Due, Answer, Send, Forget}
use Rattle.script.specs.declared.word.Head.{Head}
use Rattle.script.specs.declared.word.Head.TheVariants.{At, Do, Settings, Bring, Damage, Drive, Tick}
use Rattle.script.specs.Words.{spelled_side, spelled_switch, spelled_verb, spelled_head, sides, switches, verbs}
use Rattle.script.specs.Parse.{Item, Begins, Calls, Names, Turns, Counts, Brings, Slot, side, switch, up_to, bytes, any, after, behind_space, word_of, behind_verb, behind_head, rest, words, columned}
use Rattle.script.specs.Lines.{switch_of, verb_of, arguments_of, words_of}
use Rattle.script.specs.Show.{shown, shown_behind, behind_one}
use Rattle.script.specs.Back.{IsData, Fits64, CallFits, LineFits, ReadBack}

-- a word of the format in front of anything is read as that word
side_back : (s : Side) (r : List ℕ) → choose spelled_side sides (spelled_side s ++ r) ≡ Ok (s, r)
unfolding choose_from strip
side_back L r = refl
side_back R r = refl

switch_back : (s : Switch) (r : List ℕ) → choose spelled_switch switches (spelled_switch s ++ r) ≡ Ok (s, r)
unfolding choose_from strip
switch_back On r = refl
switch_back Off r = refl

verb_back : (v : Verb) (r : List ℕ) → choose spelled_verb verbs (spelled_verb v ++ r) ≡ Ok (v, r)
unfolding choose_from strip
verb_back Listen r = refl
verb_back Open r = refl
verb_back Accept r = refl
verb_back Give r = refl
verb_back Take r = refl
verb_back Close r = refl
verb_back Break r = refl
verb_back State r = refl
verb_back Due r = refl
verb_back Answer r = refl
verb_back Send r = refl
verb_back Forget r = refl

head_back : (h : Head) (r : List ℕ) → words (spelled_head h ++ r) ≡ after (Begins h) (behind_head h r)
unfolding choose_from strip
head_back (At L) r = refl
head_back (At R) r = refl
head_back (Do Listen) r = refl
head_back (Do Open) r = refl
head_back (Do Accept) r = refl
head_back (Do Give) r = refl
head_back (Do Take) r = refl
head_back (Do Close) r = refl
head_back (Do Break) r = refl
head_back (Do State) r = refl
head_back (Do Due) r = refl
head_back (Do Answer) r = refl
head_back (Do Send) r = refl
head_back (Do Forget) r = refl
head_back Settings r = refl
head_back Bring r = refl
head_back Damage r = refl
head_back Drive r = refl
head_back Tick r = refl

space_back : {A : Type 0} (r : List ℕ) (f : List ℕ → Result A (List ℕ)) → behind_space (32 ∷ r) f ≡ f r
unfolding strip
space_back r f = refl

-- words that may stand in these places
data Fit : List Slot → List Item → Type 0 where
  none : Fit [] []
  names : {ss : List Slot} {is : List Item} (s : Side) → Fit ss is → Fit (side ∷ ss) (Names s ∷ is)
  turns : {ss : List Slot} {is : List Item} (s : Switch) → Fit ss is → Fit (switch ∷ ss) (Turns s ∷ is)
  counts : {ss : List Slot} {is : List Item} (n limit : ℕ) → n ≤ limit → limit < 2 ^ 64 → Fit ss is → Fit (up_to limit ∷ ss) (Counts n ∷ is)
  brings : (word : List ℕ) → IsData word → Fit (bytes ∷ []) (Brings word ∷ [])

stops : (ss : List Slot) (is : List Item) → Fit ss is → Stops (shown_behind is)
stops ss is none = tt
stops ss is (names s f) = refl
stops ss is (turns s f) = refl
stops ss is (counts n limit l h f) = refl
stops ss is (brings [] d) = tt
stops ss is (brings (b ∷ bs) d) = refl

some_decoded : (word decoded : List ℕ) → 0 < length word → word ≡ encode decoded → 0 < length decoded
unfolding encode
some_decoded word [] l e = omega (arith, ap length e)
some_decoded word (b ∷ bs) l e = omega arith

whole_back : (word : List ℕ) → 0 < length word → IsData word → whole word ≡ Ok word
whole_back word l d =
    let r : run 1024 word ≡ (d.decoded, []) = ap (run 1024) d.is ∙ data_back d.decoded d.bytes d.few in
    ap (λ z. cond (is_nil z.1 && ltb 0 (length z.0)) (Ok word) (Err (cond (eqb (length z.0) most) z.1 (fault_of (octet z.1))))) r
    ∙ cond-true _ _ _ (lt-ltb 0 (length d.decoded) (some_decoded word d.decoded l d.is))

bytes_back : (word : List ℕ) → IsData word → rest (bytes ∷ []) (behind_one word ++ []) ≡ Ok (Brings word ∷ [])
bytes_back [] d = refl
bytes_back (b ∷ bs) d = ap word_of (space_back (b ∷ (bs ++ [])) whole ∙ ap (λ z. whole (b ∷ z)) (append-nil bs) ∙ whole_back (b ∷ bs) (omega arith) d)

rest_back : (ss : List Slot) (is : List Item) → Fit ss is → rest ss (shown_behind is) ≡ Ok is
rest_back ss is none = refl
rest_back (side ∷ ss) (x ∷ is) (names s f) =
    ap (λ z. and_then z (λ t q. after (Names t) (rest ss q))) (space_back (spelled_side s ++ shown_behind is) (choose spelled_side sides) ∙ side_back s (shown_behind is)) ∙ ap (after (Names s)) (rest_back ss is f)
rest_back (switch ∷ ss) (x ∷ is) (turns s f) =
    ap (λ z. and_then z (λ t q. after (Turns t) (rest ss q))) (space_back (spelled_switch s ++ shown_behind is) (choose spelled_switch switches) ∙ switch_back s (shown_behind is)) ∙ ap (after (Turns s)) (rest_back ss is f)
rest_back (y ∷ ss) (x ∷ is) (counts n limit l h f) =
    ap (λ z. and_then z (λ m q. after (Counts m) (rest ss q))) (space_back (decimal n ++ shown_behind is) (number limit) ∙ numbers_back n limit (shown_behind is) l h (stops ss is f)) ∙ ap (after (Counts n)) (rest_back ss is f)
rest_back ss is (brings word d) = bytes_back word d

any-count : {ss : List Slot} {is : List Item} (n : ℕ) → Fits64 n → Fit ss is → Fit (any ∷ ss) (Counts n ∷ is)
any-count n h f = counts n (2 ^ 64 - 1) (omega arith) (omega arith) f

call_fits : (c : Call) → CallFits c → Fit (behind_verb (verb_of c)) (arguments_of c)
call_fits (call.Listen on) h = turns (switch_of on) none
call_fits (call.Open tag) h = any-count tag h none
call_fits call.Accept h = none
call_fits (call.Give tag encoded) h = any-count tag h.0 (brings encoded.now h.1)
call_fits (call.Take tag count) h = any-count tag h.0 (any-count count h.1 none)
call_fits (call.Close tag) h = any-count tag h none
call_fits (call.Break tag) h = any-count tag h none
call_fits (call.State tag) h = any-count tag h none
call_fits (call.Due tag) h = any-count tag h none
call_fits (call.Answer tag) h = any-count tag h none
call_fits (call.Send tag place count) h = any-count tag h.0 (any-count place h.1 (any-count count h.2 none))
call_fits (call.Forget tag) h = any-count tag h none

headed_back : (h : Head) (ss : List Slot) (is : List Item) → Fit ss is → ((r : List ℕ) → behind_head h r ≡ rest ss r) → words (spelled_head h ++ shown_behind is) ≡ Ok (Begins h ∷ is)
headed_back h ss is f e = head_back h (shown_behind is) ∙ ap (after (Begins h)) (e (shown_behind is) ∙ rest_back ss is f)

words_back : (l : Line) → LineFits l → words (shown l) ≡ Ok (words_of l)
words_back line.Blank h = refl
words_back (line.Settings room size) h = headed_back Settings _ _ (any-count room h.0 (any-count size h.1 none)) (λ r. refl)
words_back (line.Act None c) h = headed_back (Do (verb_of c)) _ _ (call_fits c h) (λ r. refl)
words_back (line.Act (Some s) c) h =
    head_back (At s) (shown_behind (Calls (verb_of c) ∷ arguments_of c))
    ∙ ap (λ z. after (Begins (At s)) (and_then z (λ v q. after (Calls v) (rest (behind_verb v) q)))) (space_back (spelled_verb (verb_of c) ++ shown_behind (arguments_of c)) (choose spelled_verb verbs) ∙ verb_back (verb_of c) (shown_behind (arguments_of c)))
    ∙ ap (λ z. after (Begins (At s)) (after (Calls (verb_of c)) z)) (rest_back (behind_verb (verb_of c)) (arguments_of c) (call_fits c h))
words_back (line.Bring to which tag) h = headed_back Bring _ _ (names to (any-count which h.0 (any-count tag h.1 none))) (λ r. refl)
words_back (line.Damage to which byte mask tag) h =
    headed_back Damage _ _ (names to (any-count which h.0 (any-count byte h.1 (counts mask 255 (omega (arith, h.2)) (omega arith) (any-count tag h.3 none))))) (λ r. refl)
words_back (line.Drive s tag) h = headed_back Drive _ _ (names s (any-count tag h none)) (λ r. refl)
words_back (line.Tick count) h = headed_back Tick _ _ (any-count count h none) (λ r. refl)

pub read_back : ReadBack
read_back l h = ap (columned (shown l)) (words_back l h)
