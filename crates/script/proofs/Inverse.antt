-- A line that was read is as it is printed.
use Rattle.std.proofs.Common.{◌≡◌, ℕ, ◌^◌, ◌<◌, Bool, true, false, cond, ◌&&◌, eqb, ltb, List, [], ◌∷◌, ◌++◌, length, Ok, Err, decimal, Result, sym, refl, ap, ◌∙◌, append-nil, arith}
use Rattle.text.specs.Fronts.{Read, and_then, strip, number}
use Rattle.text.specs.Data.{run, whole, is_nil, fault_of, octet, most}
use Rattle.text.specs.Words.{choose}
use Rattle.text.proofs.Rounds.{run_nil}
use Rattle.text.proofs.Inverse.{same, strip_is, choose_is, number_is}
use Rattle.script.specs.declared.word.Verb.{Verb}
use Rattle.script.specs.declared.word.Verb.TheVariants.{Listen, Open, Accept, Give, Take, Close, Break, State, Due, Answer, Send, Forget}
use Rattle.script.specs.declared.word.Head.{Head}
use Rattle.script.specs.declared.word.Head.TheVariants.{At, Do, Settings, Bring, Damage, Drive, Tick}
use Rattle.script.specs.Words.{spelled_side, spelled_switch, spelled_verb, spelled_head, sides, switches, verbs, heads}
use Rattle.script.specs.Parse.{Item, Begins, Calls, Names, Turns, Counts, Brings, Slot, side, switch, up_to, bytes, any, Words, after, behind_space, onward, word_of, last_bytes, behind_verb, behind_head, rest, words, columned, parse}
use Rattle.script.specs.Show.{spaced, shown_behind, shown_words, behind_one}

space_is : {A : Type 0} (bs : List ℕ) (f : List ℕ → Result A (List ℕ)) (y : A) → behind_space bs f ≡ Ok y → (q : List ℕ) × (bs ≡ 32 ∷ q) × (f q ≡ Ok y)
space_is {A} bs f y e = go (strip (32 ∷ []) bs) refl e
  where
    go : (s : Result (List ℕ) (List ℕ)) → strip (32 ∷ []) bs ≡ s → onward s f ≡ Ok y → (q : List ℕ) × (bs ≡ 32 ∷ q) × (f q ≡ Ok y)
    go (Ok q) p g = (q, strip_is (32 ∷ []) bs q p, g)
    go (Err q) p g = cc

-- one word behind a space, and those behind it
record Word {A : Type 0} (reads : List ℕ → Read A) (item : A → Item) (k : A → List ℕ → Words) (bs : List ℕ) (is : List Item) : Type 0 where
  value : A
  front : List ℕ
  left : List ℕ
  others : List Item
  space : bs ≡ 32 ∷ front
  here : reads front ≡ Ok (value, left)
  behind : k value left ≡ Ok others
  all : is ≡ item value ∷ others

after_is : (i : Item) (w : Words) (is : List Item) → after i w ≡ Ok is → (js : List Item) × (w ≡ Ok js) × (is ≡ i ∷ js)
after_is i (Ok js) is e = (js, refl, sym (same (i ∷ js) is e))
after_is i (Err r) is e = cc

word_is : {A : Type 0} (reads : List ℕ → Read A) (item : A → Item) (k : A → List ℕ → Words) (bs : List ℕ) (is : List Item) → and_then (behind_space bs reads) (λ a q. after (item a) (k a q)) ≡ Ok is → Word reads item k bs is
word_is {A} reads item k bs is e = go (behind_space bs reads) refl e
  where
    go : (x : Read A) → behind_space bs reads ≡ x → and_then x (λ a q. after (item a) (k a q)) ≡ Ok is → Word reads item k bs is
    go (Ok x) p f =
        let s = space_is bs reads x p in
        let t = after_is (item x.0) (k x.0 x.1) is f in
        record { value = x.0; front = s.0; left = x.1; others = t.0; space = s.1; here = s.2; behind = t.1; all = t.2 }
    go (Err r) p f = cc

-- it stood there as it is shown
shown_so : {A : Type 0} (reads : List ℕ → Read A) (item : A → Item) (k : A → List ℕ → Words) (bs : List ℕ) (is : List Item) (w : Word reads item k bs is) (text : List ℕ)
    → w.front ≡ text ++ w.left → spaced (item w.value) ≡ 32 ∷ text → shown_behind w.others ≡ w.left → shown_behind is ≡ bs
shown_so reads item k bs is w text f s o =
    ap shown_behind w.all ∙ ap (λ z. z ++ shown_behind w.others) s ∙ ap (λ z. 32 ∷ (text ++ z)) o ∙ ap (λ z. 32 ∷ z) (sym f) ∙ sym w.space

whole_is : (bs w : List ℕ) → whole bs ≡ Ok w → (w ≡ bs) × (0 < length bs)
whole_is [] w e = cc (ap (λ z. cond (is_nil z.1 && ltb 0 (length z.0)) (Ok []) (Err (cond (eqb (length z.0) most) z.1 (fault_of (octet z.1))))) (sym (run_nil 1024)) ∙ e)
whole_is (b ∷ bs) w e = go (is_nil (run most (b ∷ bs)).1 && ltb 0 (length (run most (b ∷ bs)).0)) e
  where
    go : (t : Bool) → cond t (Ok (b ∷ bs)) (Err (cond (eqb (length (run most (b ∷ bs)).0) most) (run most (b ∷ bs)).1 (fault_of (octet (run most (b ∷ bs)).1)))) ≡ Ok w → (w ≡ b ∷ bs) × (0 < length (b ∷ bs))
    go true f = (sym (same (b ∷ bs) w f), omega arith)
    go false f = cc

one_behind : (w : List ℕ) → 0 < length w → behind_one w ++ [] ≡ 32 ∷ w
one_behind [] l = absurd (omega arith)
one_behind (b ∷ bs) l = ap (λ z. 32 ∷ b ∷ z) (append-nil bs)

bytes_are : (bs : List ℕ) (is : List Item) → last_bytes bs ≡ Ok is → shown_behind is ≡ bs
bytes_are [] is e = ap shown_behind (sym (same (Brings [] ∷ []) is e))
bytes_are (b ∷ bs) is e = go (behind_space (b ∷ bs) whole) refl e
  where
    go : (x : Result (List ℕ) (List ℕ)) → behind_space (b ∷ bs) whole ≡ x → word_of x ≡ Ok is → shown_behind is ≡ b ∷ bs
    go (Ok w) p f =
        let s = space_is (b ∷ bs) whole w p in
        let t = whole_is s.0 w s.2 in
        let l : 0 < length w = omega (arith, ap length t.0, t.1) in
        ap shown_behind (sym (same (Brings w ∷ []) is f)) ∙ one_behind w l ∙ ap (λ z. 32 ∷ z) t.0 ∙ sym s.1
    go (Err r) p f = cc

-- each number has at most 64 bits
abbrev Narrow : List Slot → Type 0
Narrow [] = Unit {0}
Narrow (side ∷ ss) = Narrow ss
Narrow (switch ∷ ss) = Narrow ss
Narrow (up_to limit ∷ ss) = (limit < 2 ^ 64) × Narrow ss
Narrow (bytes ∷ ss) = Narrow ss

rest_is : (ss : List Slot) (bs : List ℕ) (is : List Item) → Narrow ss → rest ss bs ≡ Ok is → shown_behind is ≡ bs
rest_is [] [] is n e = ap shown_behind (sym (same [] is e))
rest_is [] (b ∷ bs) is n e = cc
rest_is (side ∷ ss) bs is n e =
    let w = word_is (choose spelled_side sides) Names (λ a q. rest ss q) bs is e in
    shown_so _ _ _ bs is w (spelled_side w.value) (choose_is spelled_side sides w.front w.front w.value w.left w.here) refl (rest_is ss w.left w.others n w.behind)
rest_is (switch ∷ ss) bs is n e =
    let w = word_is (choose spelled_switch switches) Turns (λ a q. rest ss q) bs is e in
    shown_so _ _ _ bs is w (spelled_switch w.value) (choose_is spelled_switch switches w.front w.front w.value w.left w.here) refl (rest_is ss w.left w.others n w.behind)
rest_is (up_to limit ∷ ss) bs is n e =
    let w = word_is (number limit) Counts (λ a q. rest ss q) bs is e in
    shown_so _ _ _ bs is w (decimal w.value) (number_is limit w.front w.value w.left n.0 w.here).0 refl (rest_is ss w.left w.others n.1 w.behind)
rest_is (bytes ∷ ss) bs is n e = bytes_are bs is e

verb_narrow : (v : Verb) → Narrow (behind_verb v)
verb_narrow Listen = tt
verb_narrow Open = (omega arith, tt)
verb_narrow Accept = tt
verb_narrow Give = (omega arith, tt)
verb_narrow Take = (omega arith, (omega arith, tt))
verb_narrow Close = (omega arith, tt)
verb_narrow Break = (omega arith, tt)
verb_narrow State = (omega arith, tt)
verb_narrow Due = (omega arith, tt)
verb_narrow Answer = (omega arith, tt)
verb_narrow Send = (omega arith, (omega arith, (omega arith, tt)))
verb_narrow Forget = (omega arith, tt)

behind_is : (h : Head) (bs : List ℕ) (is : List Item) → behind_head h bs ≡ Ok is → shown_behind is ≡ bs
behind_is (At s) bs is e =
    let w = word_is (choose spelled_verb verbs) Calls (λ v q. rest (behind_verb v) q) bs is e in
    shown_so _ _ _ bs is w (spelled_verb w.value) (choose_is spelled_verb verbs w.front w.front w.value w.left w.here) refl
    (rest_is (behind_verb w.value) w.left w.others (verb_narrow w.value) w.behind)
behind_is (Do v) bs is e = rest_is (behind_verb v) bs is (verb_narrow v) e
behind_is Settings bs is e = rest_is (any ∷ any ∷ []) bs is (verb_narrow Take) e
behind_is Bring bs is e = rest_is (side ∷ any ∷ any ∷ []) bs is (verb_narrow Take) e
behind_is Damage bs is e = rest_is (side ∷ any ∷ any ∷ up_to 255 ∷ any ∷ []) bs is (omega arith, (omega arith, (omega arith, verb_narrow Open))) e
behind_is Drive bs is e = rest_is (side ∷ any ∷ []) bs is (verb_narrow Open) e
behind_is Tick bs is e = rest_is (any ∷ []) bs is (verb_narrow Open) e

words_are : (bs : List ℕ) (is : List Item) → words bs ≡ Ok is → 0 < length is → shown_words is ≡ bs
words_are [] is e l = absurd (omega (arith, ap length (same [] is e)))
words_are (b ∷ bs) is e l = go (eqb b 35) e
  where
    line : (x : Read Head) → choose spelled_head heads (b ∷ bs) ≡ x → and_then x (λ h q. after (Begins h) (behind_head h q)) ≡ Ok is → shown_words is ≡ b ∷ bs
    line (Ok x) p f =
        let t = after_is (Begins x.0) (behind_head x.0 x.1) is f in
        ap shown_words t.2 ∙ ap (λ z. spelled_head x.0 ++ z) (behind_is x.0 x.1 t.0 t.1) ∙ sym (choose_is spelled_head heads (b ∷ bs) (b ∷ bs) x.0 x.1 p)
    line (Err r) p f = cc

    go : (t : Bool) → cond t (Ok []) (and_then (choose spelled_head heads (b ∷ bs)) (λ h q. after (Begins h) (behind_head h q))) ≡ Ok is → shown_words is ≡ b ∷ bs
    go true f = absurd (omega (arith, ap length (same [] is f)))
    go false f = line (choose spelled_head heads (b ∷ bs)) refl f

pub parse_is : (bs : List ℕ) (is : List Item) → Ok is ≡ parse bs → 0 < length is → shown_words is ≡ bs
parse_is bs is e l = go (words bs) refl e
  where
    go : (w : Words) → words bs ≡ w → Ok is ≡ columned bs w → shown_words is ≡ bs
    go (Ok js) p f = words_are bs is (p ∙ let t : js ≡ is = cc in ap Ok t) l
    go (Err r) p f = absurd (let z : ◌≡◌ {A = ℕ} 0 1 = cc in omega arith)
