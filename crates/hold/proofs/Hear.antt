-- What is heard keeps the truth: text, its end, upto and all. Assumes nothing.
use Rattle.std.proofs.Common.{◌≡◌, ℕ, ◌+◌, ◌≤◌, Bool, true, false, ◌||◌, eqb, ltb, ◌⊎◌, List, ◌++◌, length, sym, refl, ap, ◌∙◌, inl, inr, ⊎_elim, arith, length-append}
use mathlib.Core.List.{Memᴰ}
use Rattle.std.proofs.lemmas.Bool.{cond_both, or_cases, eqb-true, eq-eqb}
use Rattle.hold.specs.Packet.{Settings, Packet, Piece}
use Rattle.hold.specs.Conn.{Conn, Last, NotSaid, heard, from, turn, ends, said}
use Rattle.hold.specs.Rules.{AtPlace, Front, Told, advance_by, with_kept}
use Rattle.hold.proofs.Bricks.{front-turn, turn_below, mem_keep, mem_from, false_true}
use Rattle.hold.proofs.Truth.{Facts, FactsOf, gave_of, LocalOf, front_length}

-- the place of the end: what was set stays, and what the text says is set if nothing was
pub said_cases : (l : Bool) (p : ℕ) (e : Last) (q : ℕ) → said l p e ≡ Last.At q → (e ≡ Last.At q) ⊎ ((l ≡ true) × (q ≡ p))
said_cases l p (Last.At r) q h = inl h
said_cases true p NotSaid q h = inr (refl, cc)
said_cases false p NotSaid q h = inl h

pub said_stays : (l : Bool) (p : ℕ) (e : Last) (q : ℕ) → e ≡ Last.At q → said l p e ≡ Last.At q
said_stays l p e q h = rw h refl

pub ends_some : (e : Last) (n : ℕ) → ends e n ≡ true → (q : ℕ) × (e ≡ Last.At q)
ends_some (Last.At q) n h = (q, refl)
ends_some NotSaid n h = false_true _ refl h

-- n: so many bytes at most are handed on; ks, e: what is kept and where the end is, before
module _ (cfg : Settings) (n : ℕ) (c d : Conn) (f : FactsOf cfg c d) (ks : List Piece) (ks-true : (x : Piece) → Memᴰ x ks → AtPlace x.place x.byte d.given) (e : Last)
    (e-true : (q : ℕ) → e ≡ Last.At q → (q ≡ length d.given) × (d.closed ≡ true)) (e-stays : (q : ℕ) → c.end ≡ Last.At q → e ≡ Last.At q) where
  more : List ℕ
  more = c.got ++ turn n (length c.got) ks

  more_front : Front more d.given
  unfolding more
  more_front = front-turn n ks c.got d.given ks-true f.front

  -- if the user was told the end before, it was at the end of all, and nothing comes after that
  ended_told : c.ended ≡ true → (q : ℕ) → e ≡ Last.At q → true ≡ eqb q (length more)
  unfolding more
  ended_told h q k = go (f.end_heard h)
    where
      go : (r : ℕ) × (c.end ≡ Last.At r) → true ≡ eqb q (length more)
      go (r, s) = let a : r ≡ length c.got = eqb-true r _ (sym (f.told r s) ∙ h) in let z : q ≡ r = cc (e-stays r s) in
          sym (eq-eqb q _ (omega (arith, front_length more d.given more_front, (f.end_true r s).0, length-append c.got (turn n (length c.got) ks))))

  more_told : (b : Bool) → c.ended ≡ b → (q : ℕ) → e ≡ Last.At q → (b || ends e (length more)) ≡ eqb q (length more)
  more_told true h q k = ended_told h q k
  more_told false h q k = ap (λ z. ends z (length more)) k

  more_heard : (b : Bool) → c.ended ≡ b → (b || ends e (length more)) ≡ true → (q : ℕ) × (e ≡ Last.At q)
  more_heard true h _ = let (q, s) = f.end_heard h in (q, e-stays q s)
  more_heard false h k = ends_some e _ k

  settle_facts : (u s : ℕ) (a : Bool) → u ≤ length d.got → s ≤ d.taken + cfg.room → (a ≡ true → d.ended ≡ true) →
      Facts cfg (record { got = c.got ++ turn n (length c.got) ks; kept = from (length (c.got ++ turn n (length c.got) ks)) ks; end = e; ended = c.ended || ends e (length (c.got ++ turn n (length c.got) ks)); upto = u; all = a; sees = s }) (gave_of d)
  unfolding more
  settle_facts u s a hu hs ha = record {
    kept_true = λ x m. ks-true x (mem_from _ _ x m).0;
    front = more_front;
    end_true = e-true;
    end_heard = more_heard c.ended refl;
    told = more_told c.ended refl;
    came = hu;
    edge_true = hs;
    all_came = ha;
  }

pub hears_facts : (cfg : Settings) (n : ℕ) (p : Packet) (c d : Conn) → FactsOf cfg c d → Told cfg p d → FactsOf cfg (advance_by n (heard cfg p c)) d
hears_facts cfg n p c d f t = settle_facts cfg n c d f _ (λ x m. ⊎_elim (f.kept_true x) (λ (i, s, h, _, _). rw h (t.bytes i _ s)) (mem_keep _ _ _ _ _ x m)) _
    (λ q h. ⊎_elim (f.end_true q) (λ (l, s). let (a, b) = t.last l in (s ∙ b, a)) (said_cases _ _ c.end q h)) (λ q h. said_stays _ _ _ q h) _ _ _
    (cond_both (ltb c.upto p.upto) p.upto c.upto (λ n. n ≤ length d.got) (λ _. t.upto) (λ _. f.came))
    (cond_both (ltb c.sees p.edge) p.edge c.sees (λ n. n ≤ d.taken + cfg.room) (λ _. t.edge) (λ _. f.edge_true))
    (λ h. ⊎_elim f.all_came t.all (or_cases _ _ h))

pub handed_facts : (cfg : Settings) (n : ℕ) (c d : Conn) → FactsOf cfg c d → FactsOf cfg (advance_by n c) d
handed_facts cfg n c d f = settle_facts cfg n c d f c.kept f.kept_true c.end f.end_true (λ q h. h) c.upto c.sees c.all f.came f.edge_true f.all_came

pub dropped_facts : (cfg : Settings) (ks : List Piece) (c d : Conn) → ((x : Piece) → Memᴰ x ks → Memᴰ x c.kept) → FactsOf cfg c d → FactsOf cfg (with_kept ks c) d
dropped_facts cfg ks c d g f = record { kept_true = λ x m. f.kept_true x (g x m); front = f.front; end_true = f.end_true; end_heard = f.end_heard; told = f.told; came = f.came; all_came = f.all_came; edge_true = f.edge_true }

pub handed_local : (cfg : Settings) (n : ℕ) (c : Conn) → LocalOf cfg c → LocalOf cfg (advance_by n c)
handed_local cfg n c l = record { taken_got = omega (arith, l.taken_got, longer); got_room = omega (arith, longer, turned); kept_room = λ x m. let (k, h) = mem_from _ _ x m in (h, (l.kept_room x k).1) }
  where
    longer : length (c.got ++ turn n (length c.got) c.kept) ≡ length c.got + length (turn n (length c.got) c.kept)
    longer = length-append c.got (turn n (length c.got) c.kept)

    turned : length c.got + length (turn n (length c.got) c.kept) ≤ c.taken + cfg.room
    turned = turn_below n (length c.got) (c.taken + cfg.room) c.kept (λ x m. (l.kept_room x m).1) l.got_room

pub heard_local : (cfg : Settings) (p : Packet) (c : Conn) → LocalOf cfg c → LocalOf cfg (heard cfg p c)
heard_local cfg p c l = record { taken_got = l.taken_got; got_room = l.got_room; kept_room = λ x m. ⊎_elim (l.kept_room x) (λ (i, s, h, a, b). (a, b)) (mem_keep _ _ _ _ _ x m) }
