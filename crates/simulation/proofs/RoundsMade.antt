-- Moves one after the other, and rounds.
use Rattle.std.proofs.Common.{◌≡◌, ℕ, zero, suc, ◌+◌, ◌-◌, ◌^◌, min, Bool, true, false, List, [], ◌∷◌, ◌++◌, length, Ok, Err, Result, is_err, sym, refl, ap, ◌∙◌, subst, append_assoc, append-nil, arith, length-append}
use Rattle.std.proofs.lemmas.Bool.{cond-false, cond-true, false≢true}
use Rattle.hold.specs.Drive.{drive, round_moves, speaks_in}
use Rattle.hold.specs.Packet as m
use Rattle.hold.specs.Self.{Brings, Clock, Self, Take, made, makes}
use Rattle.hold.specs.World.{Ev, Who, World, by_tag, end, other, world}
use Rattle.hold.proofs.SelfMoves.{made_app}
use Rattle.packet.specs.Sizes.{capacity}
use Rattle.simulation.specs.Carry.{Driven, Goes, Made1, MadeAll, UpTo, driven_to}
use Rattle.simulation.specs.Shows.{Does, Shows, who_of}
use Rattle.party.specs.declared.Fault.{Fault}
use Rattle.simulation.specs.Sides.{other_side}
use Rattle.simulation.specs.declared.pair.Pair.{Pair}
use Rattle.simulation.specs.declared.pair.Side.{Side}
use Rattle.simulation.specs.declared.pair.Side.TheVariants.{Left, Right}

pub who_other : (s r : Side) → r ≡ other_side s → who_of r ≡ other (who_of s)
who_other Left r e = ap who_of e
who_other Right r e = ap who_of e

-- what holds of a refusal, whichever it is
pub on_err : {A : Type 0} (P : Result A Fault → Type 0) (r : Result A Fault) → is_err r ≡ true → ((f : Fault) → P (Err f)) → P r
on_err P (Ok a) e g = absurd (false≢true e)
on_err P (Err f) e g = g f

pub goes_does : (p q : Pair) (fs : World → List Ev) → Does p q fs → Goes p q
goes_does p q fs d cfg es s = (fs (world cfg es), d cfg es s)

pub goes_made : (p q : Pair) (s : Self) (n : ℕ) → Made1 p q s (Ok n) → Goes p q
goes_made p q s n h cfg es w = (makes cfg (world cfg es) s, (h cfg es w).0)

pub goes_all : (p q : Pair) (ms : List Self) (n : ℕ) → MadeAll p q ms (Ok n) → Goes p q
goes_all p q ms n h cfg es w = (made cfg es ms, (h cfg es w).0)

pub goes_on : (p q r : Pair) → Goes p q → Goes q r → Goes p r
goes_on p q r f g cfg es w = go (f cfg es w)
  where
    go : (fs : List Ev) × Shows cfg q (world cfg (fs ++ es)) → (fs : List Ev) × Shows cfg r (world cfg (fs ++ es))
    go (fs, s) = then (g cfg (fs ++ es) s)
      where
        then : (gs : List Ev) × Shows cfg r (world cfg (gs ++ (fs ++ es))) → (hs : List Ev) × Shows cfg r (world cfg (hs ++ es))
        then (gs, t) = (gs ++ fs, subst (λ z. Shows cfg r (world cfg z)) (sym (append_assoc gs fs es)) t)

sums : (m k a f l : ℕ) → k ≡ min m f → l ≡ a + f → min m (k + a) ≡ min m l
sums m k a f l e g = omega (arith, e, g)

made_one : (cfg : m.Settings) (es : List Ev) (s : Self) → made cfg es (s ∷ []) ≡ makes cfg (world cfg es) s
unfolding made
made_one cfg es s = append-nil (makes cfg (world cfg es) s)

-- one move more
more_made : (p q r : Pair) (ms : List Self) (s : Self) (k n : ℕ) → MadeAll p q ms (Ok k) → Made1 q r s (Ok n) → MadeAll p r (s ∷ ms) (Ok (k + n))
unfolding made
more_made p q r ms s k n f g cfg es w = go (f cfg es w)
  where
    go : Shows cfg q (world cfg (made cfg es ms ++ es)) × (length (made cfg es ms) ≡ k) → Shows cfg r (world cfg ((makes cfg (world cfg (made cfg es ms ++ es)) s ++ made cfg es ms) ++ es)) × (length (makes cfg (world cfg (made cfg es ms ++ es)) s ++ made cfg es ms) ≡ k + n)
    go (t, e) = let (u, d) = g cfg (made cfg es ms ++ es) t in (
      subst (λ z. Shows cfg r (world cfg z)) (sym (append_assoc (makes cfg (world cfg (made cfg es ms ++ es)) s) (made cfg es ms) es)) u,
      length-append (makes cfg (world cfg (made cfg es ms ++ es)) s) (made cfg es ms) ∙ omega (arith, e, d),
    )

pub round-made : (p₀ p₁ p₂ p₃ p₄ : Pair) (o q r : Who) (t s k a b c d : ℕ) → q ≡ other o → r ≡ other o → Made1 p₀ p₁ (Take o t k) (Ok a) → Made1 p₁ p₂ (Clock q s) (Ok b) → Made1 p₂ p₃ (Brings o 0 0) (Ok c) → Made1 p₃ p₄ (Brings r 0 0) (Ok d) →
    MadeAll p₀ p₄ (round_moves o t s k) (Ok (a + b + c + d))
round-made p₀ p₁ p₂ p₃ p₄ o q r t s k a b c d eq er f g h i cfg es w =
    more_made p₀ p₃ p₄ _ (Brings (other o) 0 0) (a + b + c) d (more_made p₀ p₂ p₃ _ (Brings o 0 0) (a + b) c (more_made p₀ p₁ p₂ _ (Clock (other o) s) a b first (subst (λ z. Made1 p₁ p₂ (Clock z s) (Ok b)) eq g)) h)
    (subst (λ z. Made1 p₃ p₄ (Brings z 0 0) (Ok d)) er i) cfg es w
  where
    first : MadeAll p₀ p₁ (Take o t k ∷ []) (Ok a)
    first cfg₁ es₁ w₁ = let (x, y) = f cfg₁ es₁ w₁ in (subst (λ z. Shows cfg₁ p₁ (world cfg₁ (z ++ es₁))) (sym (made_one cfg₁ es₁ (Take o t k))) x, ap length (made_one cfg₁ es₁ (Take o t k)) ∙ y)

module _ (cfg : m.Settings) (o : Who) (t s : ℕ) where
  stop : (n : ℕ) (es : List Ev) → speaks_in (by_tag s (end (other o) (world cfg es)).conns) ≡ false → driven_to cfg es n o t s ≡ es
  unfolding drive made
  stop zero es h = refl
  stop (suc n) es h = ap (λ z. made cfg es z ++ es) (cond-false _ _ _ h)

  go_on : (n : ℕ) (es : List Ev) → speaks_in (by_tag s (end (other o) (world cfg es)).conns) ≡ true → driven_to cfg es (suc n) o t s ≡ driven_to cfg (made cfg es (round_moves o t s capacity) ++ es) n o t s
  unfolding drive
  go_on n es h = ap (λ z. made cfg es z ++ es) (cond-true _ _ _ h) ∙ ap (λ z. z ++ es) (made_app cfg es (round_moves o t s capacity) (drive cfg (made cfg es (round_moves o t s capacity) ++ es) n o t s capacity)) ∙
      append_assoc (made cfg (made cfg es (round_moves o t s capacity) ++ es) (drive cfg (made cfg es (round_moves o t s capacity) ++ es) n o t s capacity)) (made cfg es (round_moves o t s capacity)) es

  none_left : (es : List Ev) → driven_to cfg es 0 o t s ≡ es
  unfolding drive made
  none_left es = refl

  same_length : (es fs gs : List Ev) → fs ++ es ≡ gs ++ es → length fs ≡ length gs
  same_length es fs gs e = omega (arith, ap length e, length-append fs es, length-append gs es)

module _ (p q : Pair) (n : ℕ) (o : Who) (t s : ℕ) where
  pub up_first : (i : ℕ) → i ≡ n → UpTo p p n i o t s 0
  up_first i e cfg es w = ([], w, ap (λ j. driven_to cfg es j o t s) (sym e), refl)

  -- all that were wanted were made
  pub up_done : (i k : ℕ) → UpTo p q n i o t s k → ((cfg : m.Settings) (w : World) → Shows cfg q w → false ≡ speaks_in (by_tag s (end (other o) w).conns)) → Driven p q n o t s (Ok k)
  up_done i k u h cfg es w = go (u cfg es w)
    where
      go : (fs : List Ev) × Shows cfg q (world cfg (fs ++ es)) × (driven_to cfg es n o t s ≡ driven_to cfg (fs ++ es) i o t s) × (k ≡ min (2 ^ 64 - 1) (length fs)) → Shows cfg q (world cfg (driven_to cfg es n o t s)) × (k ≡ min (2 ^ 64 - 1) (length (made cfg es (drive cfg es n o t s capacity))))
      go (fs, a, b, c) = let e = b ∙ stop cfg o t s i (fs ++ es) (sym (h cfg (world cfg (fs ++ es)) a)) in (subst (λ z. Shows cfg q (world cfg z)) (sym e) a, c ∙ ap (min (2 ^ 64 - 1)) (sym (same_length cfg o t s es _ fs e)))

  pub up_all : (i k : ℕ) → i ≡ 0 → UpTo p q n i o t s k → Driven p q n o t s (Ok k)
  up_all i k z u cfg es w = go (u cfg es w)
    where
      go : (fs : List Ev) × Shows cfg q (world cfg (fs ++ es)) × (driven_to cfg es n o t s ≡ driven_to cfg (fs ++ es) i o t s) × (k ≡ min (2 ^ 64 - 1) (length fs)) → Shows cfg q (world cfg (driven_to cfg es n o t s)) × (k ≡ min (2 ^ 64 - 1) (length (made cfg es (drive cfg es n o t s capacity))))
      go (fs, a, b, c) = let e = b ∙ ap (λ j. driven_to cfg (fs ++ es) j o t s) z ∙ none_left cfg o t s (fs ++ es) in (subst (λ y. Shows cfg q (world cfg y)) (sym e) a, c ∙ ap (min (2 ^ 64 - 1)) (sym (same_length cfg o t s es _ fs e)))

  pub up_goes : (i k : ℕ) → UpTo p q n i o t s k → Goes p q
  up_goes i k u cfg es w = let (fs, a, _, _) = u cfg es w in (fs, a)

  -- one round more
  pub up_more : (r : Pair) (i j k a l : ℕ) → i ≡ suc j → UpTo p q n i o t s k → ((cfg : m.Settings) (w : World) → Shows cfg q w → true ≡ speaks_in (by_tag s (end (other o) w).conns)) → MadeAll q r (round_moves o t s capacity) (Ok a) → l ≡ min (2 ^ 64 - 1) (k + a) → UpTo p r n j o t s l
  up_more r i j k a l z u h m e cfg es w = go (u cfg es w)
    where
      go : (fs : List Ev) × Shows cfg q (world cfg (fs ++ es)) × (driven_to cfg es n o t s ≡ driven_to cfg (fs ++ es) i o t s) × (k ≡ min (2 ^ 64 - 1) (length fs)) →
          (gs : List Ev) × Shows cfg r (world cfg (gs ++ es)) × (driven_to cfg es n o t s ≡ driven_to cfg (gs ++ es) j o t s) × (l ≡ min (2 ^ 64 - 1) (length gs))
      go (fs, x, y, c) = let (f, g) = m cfg (fs ++ es) x in let ms = made cfg (fs ++ es) (round_moves o t s capacity) in (
        ms ++ fs,
        subst (λ v. Shows cfg r (world cfg v)) (sym (append_assoc ms fs es)) f,
        y ∙ ap (λ v. driven_to cfg (fs ++ es) v o t s) z ∙ go_on cfg o t s j (fs ++ es) (sym (h cfg (world cfg (fs ++ es)) x)) ∙ ap (λ v. driven_to cfg v j o t s) (sym (append_assoc ms fs es)),
        e ∙ sums (2 ^ 64 - 1) k a (length fs) (length (ms ++ fs)) c (length-append ms fs ∙ ap (λ v. v + length fs) g),
      )

-- who speaks at the other side
pub seen_other : (q : Pair) (b : Bool) (o r : Who) (s : ℕ) → r ≡ other o → ((cfg : m.Settings) (w : World) → Shows cfg q w → b ≡ speaks_in (by_tag s (end r w).conns)) → (cfg : m.Settings) (w : World) → Shows cfg q w → b ≡ speaks_in (by_tag s (end (other o) w).conns)
seen_other q b o r s e h cfg w x = h cfg w x ∙ ap (λ z. speaks_in (by_tag s (end z w).conns)) e
