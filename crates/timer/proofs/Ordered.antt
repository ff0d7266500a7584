-- Sixteen rows in the order of their ends.
use Rattle.std.proofs.Common.{◌≡◌, ℕ, zero, suc, ◌+◌, ◌<◌, ◌≤◌, min, true, false, not, ltb, List, map, length, replicate, refl, ap, ◌∙◌, arith}
use Rattle.std.proofs.lemmas.List.{length-map, length-drop}
use Rattle.std.proofs.lemmas.Bool.Decides.{nat_tests}
use Rattle.timer.specs.declared.flight.Row.{Row}
use Rattle.timer.specs.Flight.{blank, resent, settled, insert, sent_rows, full}
use Rattle.timer.proofs.Counts.{above, Rising, above-resent, above-insert, above_few, above-drop, full_all, rising-resent, rising-settled, rising-insert, rising-drop, length-insert}

pub record Ordered (ks : List Row) : Type 0 where
  pub size : length ks ≡ 16
  pub rising : Rising 0 ks

rising-blank : (n : ℕ) → Rising 0 (replicate n blank)
rising-blank zero = tt
rising-blank (suc n) = (omega arith, rising-blank n)

pub ordered_blank : Ordered (replicate 16 blank)
ordered_blank = record { size = refl; rising = rising-blank 16 }

pub ordered_settled : (v : ℕ) (ks : List Row) → Ordered ks → Ordered (map (settled v) ks)
ordered_settled v ks o = record { size = length-map ks (settled v) ∙ o.size; rising = rising-settled v 0 ks o.rising }

pub rising-sent : (p e : ℕ) (x : Row) (ks : List Row) → Ordered ks → Rising 0 (insert x (map (resent p e) ks))
rising-sent p e x ks o = rising-insert 0 x (map (resent p e) ks) (rising-resent p e 0 ks o.rising) (omega arith)

pub ordered_sent : (high p e now : ℕ) (ks : List Row) → Ordered ks → Ordered (sent_rows high p e now ks)
ordered_sent high p e now ks o =
    let x : Row = record { place = p; end = e; time = now; clean = not (ltb p high) } in
    let l = length-drop 1 (insert x (map (resent p e) ks)) in let i = length-insert x (map (resent p e) ks) in let m = length-map ks (resent p e) in let s = o.size in
    record { size = omega arith; rising = rising-drop 0 (insert x (map (resent p e) ks)) (rising-sent p e x ks o) }

-- a row more above what it reaches beyond, but sixteen at most
pub above-sent : (u high p e now : ℕ) (ks : List Row) → Ordered ks → u < e → above u (sent_rows high p e now ks) ≡ min 16 (above u ks + 1)
above-sent u high p e now ks o l =
    let x : Row = record { place = p; end = e; time = now; clean = not (ltb p high) } in
    let d = above-drop u 0 (insert x (map (resent p e) ks)) (rising-sent p e x ks o) in let i = above-insert u x (map (resent p e) ks) in let r = above-resent u p e ks in
    let j = length-insert x (map (resent p e) ks) in let m = length-map ks (resent p e) in let s = o.size in grind (arith, nat_tests)

pub above_most : (u : ℕ) (ks : List Row) → Ordered ks → above u ks ≤ 16
above_most u ks o = let f = above_few u ks in let s = o.size in omega arith

pub full-above : (u : ℕ) (ks : List Row) → Ordered ks → full u ks ≡ not (ltb (above u ks) 16)
full-above u ks o = full_all u 0 ks o.rising o.size

pub full_stays : (u high p e now : ℕ) (ks : List Row) → Ordered ks → u < e → full u ks ≡ true → full u (sent_rows high p e now ks) ≡ true
full_stays u high p e now ks o l f =
    let a = full-above u ks o in let b = full-above u (sent_rows high p e now ks) (ordered_sent high p e now ks o) in let d = above-sent u high p e now ks o l in
    let g : ltb (above u ks) 16 ≡ false = grind (arith, nat_tests) in let h : ltb (above u (sent_rows high p e now ks)) 16 ≡ false = grind (arith, nat_tests) in b ∙ ap not h
