-- The first words of a line.
use Rattle.std.proofs.Common.{◌≡◌, ℕ, ◌<◌, List, [], ◌∷◌, length, get_or, Ok, Err, Result, IfOk, sym, ap, ◌∙◌, arith}
use Rattle.std.proofs.lemmas.Bool.{ne_eqb, cond-false}
use Rattle.text.specs.Fronts.{and_then}
use Rattle.text.specs.Words.{choose}
use Rattle.script.specs.declared.line.Side.{Side}
use Rattle.script.specs.declared.line.Call.{Call}
use Rattle.script.specs.declared.line.Line.{Line}
use Rattle.script.specs.declared.line.Fault.{Fault}
use Rattle.script.specs.declared.word.Verb.{Verb}
use Rattle.script.specs.declared.word.Head.{Head}
use Rattle.script.specs.declared.word.Head.TheVariants.{At}
use Rattle.script.specs.Words.{spelled_verb, spelled_head, verbs, heads}
use Rattle.script.specs.Parse.{Item, Begins, Calls, Words, after, behind_space, behind_verb, behind_head, rest, words, parse}
use Rattle.script.specs.Lines.{verb_of, arguments_of, beside, words_of, line_read}
use Rattle.script.specs.Show.{shown}
use Rattle.script.proofs.Inverse.{parse_is}

verb-before : (v : Verb) (w : Words) (u : Verb) (is : List Item) → Ok (u, is) ≡ beside v w → Ok (Calls u ∷ is) ≡ after (Calls v) w
verb-before v (Ok js) u is e = let t : ◌≡◌ {A = Verb × List Item} (u, is) (v, js) = cc in ap (λ z. Ok (Calls z.0 ∷ z.1)) t
verb-before v (Err r) u is e = cc

pub at_side_lem : (head : Head) (s : Side) (line : List ℕ) (v : Verb) (q : List ℕ) (c : Call) → head ≡ At s → Ok (v, q) ≡ behind_space line (choose spelled_verb verbs)
    → Ok (verb_of c, arguments_of c) ≡ beside v (rest (behind_verb v) q) → Ok (Begins (At s) ∷ Calls (verb_of c) ∷ arguments_of c) ≡ after (Begins head) (behind_head head line)
at_side_lem head s line v q c e f g =
    ap (after (Begins (At s))) (verb-before v (rest (behind_verb v) q) (verb_of c) (arguments_of c) g)
    ∙ ap (λ x. after (Begins (At s)) (and_then x (λ u p. after (Calls u) (rest (behind_verb u) p)))) f ∙ ap (λ h. after (Begins h) (behind_head h line)) (sym e)

pub headed_line : (line : List ℕ) (h : Head) (q : List ℕ) (r : Words) → 0 < length line → (get_or line 0 0 ≡ 35 → ⊥) → Ok (h, q) ≡ choose spelled_head heads line → r ≡ after (Begins h) (behind_head h q) → r ≡ words line
headed_line [] h q r l n f g = absurd (omega (arith, l))
headed_line (b ∷ bs) h q r l n f g = g ∙ ap (λ x. and_then x (λ k p. after (Begins k) (behind_head k p))) f ∙ sym (cond-false _ _ _ (ne_eqb b 35 n))

pub printed_lem : (r : Result Line Fault) (bs : List ℕ) → line_read r ≡ parse bs → IfOk r (λ l. 0 < length (words_of l) → shown l ≡ bs)
printed_lem (Ok l) bs e = parse_is bs (words_of l) e
printed_lem (Err f) bs e = tt
