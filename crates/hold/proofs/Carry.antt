-- What a due text brings to the one that hears it: at least one byte, if there is one and there is room, and the end. Assumes nothing.
use Rattle.std.proofs.Common.{◌≡◌, ℕ, zero, suc, ◌+◌, ◌-◌, ◌<◌, ◌≤◌, Bool, true, false, not, ltb, List, [], ◌∷◌, ◌++◌, length, take, drop, refl, ap, arith, length-append}
use Rattle.std.proofs.lemmas.Bool.Decides.{nat_tests}
use Rattle.std.proofs.lemmas.Bool.{cond_both, cond-true, and_from, eq-eqb, ltb-false}
use Rattle.hold.specs.Packet.{Settings, Piece, has, larger, lower}
use Rattle.hold.specs.Conn.{Conn, Last, NotSaid, open_with, hears, due, due_text, keep, turn, said}
use Rattle.hold.specs.Live.{Heard}
use Rattle.hold.proofs.Hear.{said_stays}

pub first_byte : (k p : ℕ) (g : List ℕ) → 1 ≤ k → p < length g → (x : ℕ) × (r : List ℕ) × (take k (drop p g) ≡ x ∷ r)
first_byte zero p g h l = absurd (omega arith)
first_byte (suc k) p [] h l = absurd (omega arith)
first_byte (suc k) zero (x ∷ g) h l = (x, take k g, refl)
first_byte (suc k) (suc p) (x ∷ g) h l = first_byte (suc k) p g h (omega arith)

pub no_byte : (k p : ℕ) (g : List ℕ) → length g ≤ p → length (take k (drop p g)) ≡ 0
no_byte zero p g l = refl
no_byte (suc k) zero [] l = refl
no_byte (suc k) zero (x ∷ g) l = absurd (omega arith)
no_byte (suc k) (suc p) [] l = refl
no_byte (suc k) (suc p) (x ∷ g) l = no_byte (suc k) p g (omega arith)

pub larger-one : (k : ℕ) → 1 ≤ larger 1 k
larger-one k = grind (arith, nat_tests)

keep-has : (n next edge p : ℕ) (bs : List ℕ) (ks : List Piece) → has n ks ≡ true → has n (keep next edge p bs ks) ≡ true
unfolding keep has
keep-has n next edge p [] ks h = h
keep-has n next edge p (b ∷ bs) ks h = keep-has n next edge (p + 1) bs _ (grind (arith, nat_tests))

keep-first : (next edge b : ℕ) (bs : List ℕ) (ks : List Piece) → next < edge → has next (keep next edge next (b ∷ bs) ks) ≡ true
unfolding keep has
keep-first next edge b bs ks l = keep-has next next edge (next + 1) bs _ (grind (arith, nat_tests))

turn_one : (next : ℕ) (ks : List Piece) → has next ks ≡ true → 1 ≤ length (turn (length ks) next ks)
unfolding turn has
turn_one next [] h = grind arith
turn_one next (k ∷ ks) h = grind arith

module _ (cfg : Settings) (a b : Conn) where
  ks : List Piece
  ks = keep (length b.got) (b.taken + cfg.room) a.upto (due_text cfg a) b.kept

  ks_has : a.upto ≡ length b.got → length b.got < length a.given → length b.got < b.taken + cfg.room → has (length b.got) ks ≡ true
  unfolding ks
  ks_has e l r = go (first_byte (larger 1 (lower cfg.size (a.sees - a.upto))) a.upto a.given (larger-one (lower cfg.size (a.sees - a.upto))) (omega arith))
    where
      go : (x : ℕ) × (t : List ℕ) × (due_text cfg a ≡ x ∷ t) → has (length b.got) (keep (length b.got) (b.taken + cfg.room) a.upto (due_text cfg a) b.kept) ≡ true
      go (x, t, h) = rw (h, e) (keep-first (length b.got) (b.taken + cfg.room) x t b.kept r)

  pub last_due : a.closed ≡ true → a.all ≡ false → a.upto ≡ length a.given → (due cfg a).last ≡ true
  last_due c n u = and_from _ _ (and_from _ _ c (ap not n)) (eq-eqb _ _ (omega (arith, no_byte (larger 1 (lower cfg.size (a.sees - a.upto))) a.upto a.given (omega arith))))

  some_end : (l : Bool) (p : ℕ) (e : Last) → l ≡ true → (q : ℕ) × (said l p e ≡ Last.At q)
  some_end l p (Last.At q) h = (q, refl)
  some_end l p NotSaid h = (p, cond-true _ _ _ h)

  pub hears-due : Heard cfg a b (hears cfg (due cfg a) (open_with a.mine b))
  unfolding ks
  hears-due = record {
    mine = refl;
    theirs = refl;
    phase = refl;
    opened = refl;
    given = refl;
    closed = refl;
    upto = cond_both (ltb b.upto (length a.got)) (length a.got) b.upto (λ n. length a.got ≤ n) (λ _. omega arith) (λ h. ltb-false _ _ h);
    longer = omega (arith, more);
    brings = λ e l r. omega (arith, more, turn_one (length b.got) ks (ks_has e l r));
    ends_stay = λ q h. said_stays _ _ _ q h;
    ends_come = λ c n u. some_end _ _ b.end (last_due c n u);
  }
    where
      more : length (b.got ++ turn (length ks) (length b.got) ks) ≡ length b.got + length (turn (length ks) (length b.got) ks)
      more = length-append b.got (turn (length ks) (length b.got) ks)
