-- Sixteen rows are enough.
use Rattle.std.proofs.Common.{◌≡◌, ℕ, zero, suc, ◌<◌, ◌≤◌, min, max, Bool, true, false, not, ltb, ◌⊎◌, List, [], ◌∷◌, map, length, drop, replicate, sym, refl, ap, ◌∙◌, inl, inr, ⊎_elim, arith}
use Rattle.std.proofs.lemmas.Bool.{cond_both, ltb-true}
use Rattle.std.proofs.lemmas.Bool.Decides.{nat_tests}
use Rattle.std.proofs.lemmas.List.{length-map, length-append}
use Rattle.std.proofs.lemmas.List.Elements.{filter-append}
use Rattle.timer.specs.declared.flight.Row.{Row}
use Rattle.timer.specs.Flight.{blank, unclean, resent, settled, insert, full, shares}
use Rattle.timer.specs.Enough.{Way, Move, Sends, Clears, Confirms, moved, held, beyond, way_after, held_after, Allowed, Lawful, Enough, SixteenSuffice}
use Rattle.timer.proofs.Counts.{above, cleans, above-resent, above-settled, above_push, above-insert, above-beyond, beyond_all, above_falls, above-drop, length-insert, cleans-resent, cleans-settled, cleans-beyond, cleans_more, measured-cleans}
use Rattle.timer.proofs.Ordered.{Ordered, ordered_blank, ordered_sent, ordered_settled, rising-sent, full-above}

-- each clean row has bytes that aren't confirmed
abbrev Sound : ℕ → List Row → Type 0
Sound u [] = Unit
Sound u (r ∷ rs) = (r.clean ≡ true → (u < r.end) × (r.place < r.end)) × Sound u rs

record Kept (w : Way) (ks : List Row) : Type 0 where
  ordered : Ordered ks
  same : (u : ℕ) → w.upto ≤ u → min 16 (above u w.rows) ≡ above u ks
  clean : cleans w.rows ≡ cleans ks
  far : above w.upto w.rows ≡ length w.rows
  low : above w.high ks ≡ 0
  sound : Sound w.upto ks

never : ◌≡◌ {A = Bool} false true → ⊥
never b = let z : ◌≡◌ {A = ℕ} 0 1 = cc in omega arith

sound-resent : (u p e : ℕ) (xs : List Row) → Sound u xs → Sound u (map (resent p e) xs)
sound-resent u p e [] s = s
sound-resent u p e (x ∷ xs) (h, s) = let r = sound-resent u p e xs s in
    cond_both (shares p e x) (unclean x) x (λ z. (z.clean ≡ true → (u < z.end) × (z.place < z.end)) × Sound u (map (resent p e) xs)) (λ _. ((λ b. absurd (never b)), r)) (λ _. (h, r))

sound-settled : (u v : ℕ) (xs : List Row) → Sound u xs → Sound v (map (settled v) xs)
sound-settled u v [] s = s
sound-settled u v (x ∷ xs) (h, s) = let r = sound-settled u v xs s in
    cond_both (ltb v x.end) x (unclean x) (λ z. (z.clean ≡ true → (v < z.end) × (z.place < z.end)) × Sound v (map (settled v) xs)) (λ t. ((λ b. (ltb-true v x.end t, (h b).1)), r)) (λ _. ((λ b. absurd (never b)), r))

sound-insert : (u : ℕ) (x : Row) (xs : List Row) → Sound u xs → (u < x.end) → (x.place < x.end) → Sound u (insert x xs)
unfolding insert
sound-insert u x [] s a b = ((λ _. (a, b)), tt)
sound-insert u x (y ∷ xs) (h, s) a b =
    cond_both (ltb x.end y.end) (x ∷ y ∷ xs) (y ∷ insert x xs) (Sound u) (λ _. ((λ _. (a, b)), (h, s))) (λ _. (h, sound-insert u x xs s a b))

sound-drop : (u : ℕ) (xs : List Row) → Sound u xs → Sound u (drop 1 xs)
sound-drop u [] s = s
sound-drop u (x ∷ xs) (h, s) = s

-- the row that is left out isn't clean
head_unclean : (p e high upto : ℕ) (x : Row) (xs : List Row) → x.end ≡ e → x.clean ≡ not (ltb p high) → p < e → 0 < length xs → Sound upto xs → above high xs ≡ 0 → (p ≡ upto) ⊎ (full upto xs ≡ false) →
    cleans (drop 1 (insert x (map (resent p e) xs))) ≡ cleans (insert x (map (resent p e) xs))
unfolding insert
head_unclean p e high upto x [] a b l z s h k = absurd (omega arith)
head_unclean p e high upto x (y ∷ xs) a b l z (s, _) h k = ⊎_elim (λ q. grind (arith, nat_tests)) (λ q. grind (arith, nat_tests)) k

above-blank : (u n : ℕ) → above u (replicate n blank) ≡ 0
above-blank u zero = refl
above-blank u (suc n) = let r = above-blank u n in grind (arith, nat_tests)

cleans-blank : (n : ℕ) → cleans (replicate n blank) ≡ []
cleans-blank zero = refl
cleans-blank (suc n) = cleans-blank n

sound-blank : (u n : ℕ) → Sound u (replicate n blank)
sound-blank u zero = tt
sound-blank u (suc n) = ((λ b. absurd (never b)), sound-blank u n)

kept_blank : (w : Way) → w.rows ≡ [] → Kept w (replicate 16 blank)
kept_blank w e = record {
  ordered = ordered_blank;
  same = (λ u l. let a = above-blank u 16 in rw e (omega arith));
  clean = ap cleans e ∙ sym (cleans-blank 16);
  far = rw e refl;
  low = above-blank w.high 16;
  sound = sound-blank w.upto 16;
}

kept_enough : (w : Way) (ks : List Row) → Kept w ks → Enough w ks
kept_enough w ks k = record {
  few = (let f = full-above w.upto ks k.ordered in let s = k.same w.upto (omega arith) in let a = k.far in grind (arith, nat_tests));
  measures = (λ upto now m. let a = measured-cleans upto now m w.rows in let b = measured-cleans upto now m ks in let e = k.clean in cc);
}

kept_sends : (p e now : ℕ) (w : Way) (ks : List Row) → Allowed (Sends p e now) w → Kept w ks → Kept (moved (Sends p e now) w) (held (Sends p e now) w ks)
kept_sends p e now w ks (a, b, d) k =
    let x : Row = record { place = p; end = e; time = now; clean = not (ltb p w.high) } in
    let ys = map (resent p e) ks in
    let rising = rising-sent p e x ks k.ordered in
    let size = length-map ks (resent p e) in
    let sizes = length-insert x ys in
    record {
      ordered = ordered_sent w.high p e now ks k.ordered;
      same = (λ u h. let f = above_push u x (map (resent p e) w.rows) in let g = above-resent u p e w.rows in let j = above-drop u 0 (insert x ys) rising in let i = above-insert u x ys in let o = above-resent u p e ks in let q = k.same u h in let m = k.ordered.size in grind (arith, nat_tests));
      clean = (let f = filter-append (λ r. r.clean) (map (resent p e) w.rows) (x ∷ []) in let g = cleans-resent p e w.rows in let j = cleans-resent p e ks in let o = k.clean in
          let i = head_unclean p e w.high w.upto x ks refl refl b (omega (arith, k.ordered.size)) k.sound k.low (⊎_elim inl (λ q. inr (let n = (kept_enough w ks k).few in grind (arith, nat_tests))) d) in
          let m = cleans_more w.high x ys (above-resent w.high p e ks ∙ k.low) (λ t. grind (arith, nat_tests)) in cc);
      far = (let f = above_push w.upto x (map (resent p e) w.rows) in let g = above-resent w.upto p e w.rows in let j = k.far in let i = length-append (map (resent p e) w.rows) (x ∷ []) in let o = length-map w.rows (resent p e) in grind (arith, nat_tests));
      low = (let h = max w.high e in let j = above-drop h 0 (insert x ys) rising in let i = above-insert h x ys in let o = above-resent h p e ks in let q = above_falls w.high h ks (omega arith) in let m = k.low in grind (arith, nat_tests));
      sound = sound-drop w.upto (insert x ys) (sound-insert w.upto x ys (sound-resent w.upto p e ks k.sound) (omega arith) b);
    }

kept_confirms : (u : ℕ) (w : Way) (ks : List Row) → Kept w ks → Kept (moved (Confirms u) w) (held (Confirms u) w ks)
kept_confirms u w ks k = let v = max w.upto u in record {
  ordered = ordered_settled v ks k.ordered;
  same = (λ t h. let a = above-beyond t v w.rows (omega arith) in let b = above-settled t v ks in let d = k.same t (omega arith) in omega arith);
  clean = cleans-beyond v w.rows ∙ ap (beyond v) k.clean ∙ sym (cleans-settled v ks);
  far = beyond_all v w.rows;
  low = above-settled w.high v ks ∙ k.low;
  sound = sound-settled w.upto v ks k.sound;
}

kept : (ms : List Move) → Lawful ms → Kept (way_after ms) (held_after ms)
unfolding way_after held_after Lawful
kept [] l = kept_blank (way_after []) refl
kept (Sends p e now ∷ ms) (a, l) = kept_sends p e now (way_after ms) (held_after ms) a (kept ms l)
kept (Clears ∷ ms) (a, l) = kept_blank (moved Clears (way_after ms)) refl
kept (Confirms u ∷ ms) (a, l) = kept_confirms u (way_after ms) (held_after ms) (kept ms l)

pub sixteen_suffice_lem : SixteenSuffice
sixteen_suffice_lem ms l = kept_enough (way_after ms) (held_after ms) (kept ms l)
