-- After each step of an end, a look at its connections keeps the accounts true.
use Rattle.std.proofs.Common.{◌≡◌, ℕ, ◌+◌, ◌-◌, ◌≤◌, min, Bool, true, false, not, ◌&&◌, ◌||◌, eqb, List, [], ◌∷◌, ◌++◌, map, length, take, drop, sym, refl, ap, ◌∙◌, subst, ⊎_elim, append_assoc, append-nil, arith, length-append}
use mathlib.Core.List.Memᴰ
use mathlib.Core.List.{Memᴰ}
use Rattle.std.proofs.lemmas.List.{map-id, drop_at, take-append-drop, length-take, length-drop}
use Rattle.std.proofs.lemmas.Simd.{map-map}
use Rattle.std.proofs.lemmas.Bool.Decides.{nat_tests}
use Rattle.std.proofs.lemmas.Bool.{and_parts, and_from, not-true, eqb-true, eq-eqb, ne_eqb, cases_Bool, cond_both, cond-true, cond-false}
use Rattle.hold.specs.Packet.{lower}
use Rattle.hold.specs.Conn.{Conn, Phase, Gone, new, in_phase, gives, takes}
use Rattle.hold.specs.World.{change, gone, is_open, by_tag, Found, NotThere, There, is_in}
use Rattle.hold.specs.Promise.{tags, apart}
use Rattle.hold.proofs.Bricks.{false_true}
use Rattle.hold.proofs.Table.{mem_tags, one_tag, by_tag_mem, by_tag-finds, mem_changed, tags-change}
use Rattle.ledger.specs.Sentence.{Account}
use Rattle.ledger.specs.Tells.{Tells, Tell, seen, looked, begun, wrote, gave, took}

-- accounts of a table that stays as it is
pub tell_same : (h : Account → Account) (bs : List Account) (cs : List Conn) → Tell bs cs → ((a : Account) (c : Conn) → Memᴰ c cs → Tells a c → Tells (h a) c) → Tell (map h bs) cs
tell_same h [] [] r k = tt
tell_same h [] (c ∷ cs) r k = absurd r
tell_same h (a ∷ bs) [] r k = absurd r
tell_same h (a ∷ bs) (c ∷ cs) (s, r) k = (k a c (Memᴰ.head refl) s, tell_same h bs cs r (λ b d m. k b d (Memᴰ.tail m)))

-- accounts of a table in which one connection is changed
pub tell_change : (t : ℕ) (f : Conn → Conn) (h : Account → Account) (bs : List Account) (cs : List Conn) → Tell bs cs → apart (tags cs) ≡ true →
    ((a : Account) (c : Conn) → Memᴰ c cs → c.mine ≡ t → gone c.phase ≡ false → Tells a c → Tells (h a) (f c)) →
    ((a : Account) (c : Conn) → Memᴰ c cs → (c.mine ≡ t → gone c.phase ≡ true) → Tells a c → Tells (h a) c) → Tell (map h bs) (change t f cs)
unfolding change apart tags
tell_change t f h [] [] r e g k = tt
tell_change t f h [] (c ∷ cs) r e g k = absurd r
tell_change t f h (a ∷ bs) [] r e g k = absurd r
tell_change t f h (a ∷ bs) (c ∷ cs) (s, r) e g k = cond_both (eqb c.mine t && not (gone c.phase)) (f c ∷ cs) (c ∷ change t f cs) (Tell (h a ∷ map h bs))
    (λ q. let (u, v) = and_parts _ _ q in (g a c (Memᴰ.head refl) (eqb-true _ _ u) (not-true _ v) s, tell_same h bs cs r (λ b d m w. k b d (Memᴰ.tail m) (λ z. false_true _ new (ap (λ y. is_in y (tags cs)) (eqb-true _ _ u ∙ sym z) ∙ mem_tags cs d m)) w)))
    (λ q. (
      k a c (Memᴰ.head refl) (λ z. ⊎_elim (λ y. y) (λ y. false_true _ q (and_from _ _ (eq-eqb _ _ z) (ap not y))) (cases_Bool (gone c.phase))) s,
      tell_change t f h bs cs r (and_parts _ _ e).1 (λ b d m. g b d (Memᴰ.tail m)) (λ b d m. k b d (Memᴰ.tail m)),
    ))
  where
    new : is_in c.mine (tags cs) ≡ false
    new = not-true _ (and_parts _ _ e).0

opened_so : (a c : Bool) (h : Phase) → a ≡ c → (is_open h ≡ true → c ≡ true) → (a || is_open h) ≡ c
opened_so a c h e k = grind (arith, nat_tests)

-- a look at a table in which no tag is had twice, and whoever is open was opened
module _ (cs : List Conn) (one : apart (tags cs) ≡ true) (opens : (c : Conn) → Memᴰ c cs → is_open c.phase ≡ true → c.opened ≡ true) where
  not_found : (c : Conn) → Memᴰ c cs → gone c.phase ≡ true → by_tag c.mine cs ≡ NotThere
  not_found c m g = go (by_tag c.mine cs) refl
    where
      go : (f : Found) → by_tag c.mine cs ≡ f → by_tag c.mine cs ≡ NotThere
      go NotThere e = e
      go (There d) e = let (n, q, h) = by_tag_mem c.mine cs d e in false_true _ h (ap (λ z. gone z.phase) (one_tag cs d c one n m q) ∙ g)

  -- of one that is not gone all is seen but what its user gave and took
  tells_look : (a : Account) (c : Conn) (rest : List ℕ) → Memᴰ c cs → gone c.phase ≡ false → a.tag ≡ c.mine → a.given ≡ c.given → a.taken ++ rest ≡ c.got → length a.taken ≡ c.taken →
      (a.opened || is_open c.phase) ≡ c.opened → Tells (seen (by_tag a.tag cs) a) c
  tells_look a c rest m g t gi ta co op = subst (λ z. Tells (seen z a) c) (sym (ap (λ z. by_tag z cs) t ∙ by_tag-finds cs c one m g))
      (record { tag = t; peer = refl; opened = op; given = gi; closed = refl; arrived = refl; rest = rest; taken = ta; count = λ _. co; heard = refl; told = refl; upto = refl; all = refl })

  -- of one that is gone nothing
  tells_gone : (a : Account) (c : Conn) → Memᴰ c cs → gone c.phase ≡ true → Tells a c → Tells (seen (by_tag a.tag cs) a) c
  tells_gone a c m g s = subst (λ z. Tells (seen z a) c) (sym (ap (λ z. by_tag z cs) s.tag ∙ not_found c m g)) s

  tells_again : (a : Account) (c : Conn) → Memᴰ c cs → Tells a c → Tells (seen (by_tag a.tag cs) a) c
  tells_again a c m s = ⊎_elim (λ g. tells_gone a c m g s) (λ g. tells_look a c s.rest m g s.tag s.given s.taken (s.count g) (opened_so a.opened c.opened c.phase s.opened (opens c m))) (cases_Bool (gone c.phase))

  -- nothing changed
  pub look-same : (bs : List Account) → Tell bs cs → Tell (looked cs bs) cs
  look-same bs r = tell_same (λ a. seen (by_tag a.tag cs) a) bs cs r tells_again

-- one connection more
pub look-new : (cs : List Conn) (h : Phase) (t u : ℕ) → gone h ≡ false → is_open h ≡ false → apart (t ∷ tags cs) ≡ true → ((c : Conn) → Memᴰ c cs → is_open c.phase ≡ true → c.opened ≡ true) →
    (bs : List Account) → Tell bs cs → Tell (looked (new h t u ∷ cs) (begun t ∷ bs)) (new h t u ∷ cs)
unfolding tags
look-new cs h t u g n one opens bs r = look_same'
  where
    all_open : (c : Conn) → Memᴰ c (new h t u ∷ cs) → is_open c.phase ≡ true → c.opened ≡ true
    all_open c m e = ⊎_elim (λ q. false_true _ n (ap (λ z. is_open z.phase) (sym q) ∙ e)) (λ k. opens c k e) (Memᴰ.cases_cons m)

    look_same' : Tell (looked (new h t u ∷ cs) (begun t ∷ bs)) (new h t u ∷ cs)
    look_same' = (
      tells_look (new h t u ∷ cs) one all_open (begun t) (new h t u) [] (Memᴰ.head refl) g refl refl refl refl n,
      tell_same (λ a. seen (by_tag a.tag (new h t u ∷ cs)) a) bs cs r (λ a c m s. tells_again (new h t u ∷ cs) one all_open a c (Memᴰ.tail m) s),
    )

-- who is not the one that is changed stays
mem_stays : (t : ℕ) (f : Conn → Conn) (cs : List Conn) (c : Conn) → (c.mine ≡ t → gone c.phase ≡ true) → Memᴰ c cs → Memᴰ c (change t f cs)
unfolding change
mem_stays t f [] c n m = m
mem_stays t f (x ∷ xs) c n m = cond_both (eqb x.mine t && not (gone x.phase)) (f x ∷ xs) (x ∷ change t f xs) (Memᴰ c)
    (λ e. let (u, v) = and_parts _ _ e in ⊎_elim (λ q. false_true _ (ap (λ z. gone z.phase) q ∙ not-true _ v) (n (ap (λ z. z.mine) q ∙ eqb-true _ _ u))) Memᴰ.tail (Memᴰ.cases_cons m))
    (λ _. ⊎_elim Memᴰ.head (λ k. Memᴰ.tail (mem_stays t f xs c n k)) (Memᴰ.cases_cons m))

-- one connection is changed, and j is written down of it
module _ (cs : List Conn) (t : ℕ) (f : Conn → Conn) (j : Account → Account) (one : apart (tags cs) ≡ true) (keeps : (c : Conn) → (f c).mine ≡ c.mine)
    (opens : (c : Conn) → Memᴰ c (change t f cs) → is_open c.phase ≡ true → c.opened ≡ true) where
  one' : apart (tags (change t f cs)) ≡ true
  one' = ap apart (tags-change t f cs keeps) ∙ one

  at-change : (c : Conn) → Memᴰ c cs → c.mine ≡ t → gone c.phase ≡ false → Memᴰ (f c) (change t f cs)
  at-change c m e g = subst (λ z. Memᴰ (f c) (change z f cs)) e (mem_changed f cs c one m g)

  look-change : ((a : Account) (c : Conn) → Memᴰ c cs → c.mine ≡ t → gone c.phase ≡ false → Tells a c → Tells (seen (by_tag (j a).tag (change t f cs)) (j a)) (f c)) →
      ((a : Account) (c : Conn) → Memᴰ c cs → (c.mine ≡ t → gone c.phase ≡ true) → Tells a c → Tells (j a) c) → (bs : List Account) → Tell bs cs → Tell (looked (change t f cs) (map j bs)) (change t f cs)
  look-change g k bs r = subst (λ z. Tell z (change t f cs)) (sym (map-map (λ a. seen (by_tag a.tag (change t f cs)) a) j bs))
      (tell_change t f (λ a. seen (by_tag (j a).tag (change t f cs)) (j a)) bs cs r one g (λ a c m q s. tells_again (change t f cs) one' opens (j a) c (mem_stays t f cs c q m) (k a c m q s)))

-- a connection that is changed, but for what its user gave and took
pub record Turns (c d : Conn) : Type 0 where
  pub mine : d.mine ≡ c.mine
  pub given : d.given ≡ c.given
  pub more : List ℕ
  pub got : c.got ++ more ≡ d.got
  pub taken : d.taken ≡ c.taken
  pub lives : gone d.phase ≡ false
  pub opened : (c.opened || is_open d.phase) ≡ d.opened

pub look-turn : (cs : List Conn) (t : ℕ) (f : Conn → Conn) → apart (tags cs) ≡ true → ((c : Conn) → (f c).mine ≡ c.mine) → ((c : Conn) → Memᴰ c (change t f cs) → is_open c.phase ≡ true → c.opened ≡ true) →
    ((c : Conn) → Memᴰ c cs → c.mine ≡ t → gone c.phase ≡ false → Turns c (f c)) → (bs : List Account) → Tell bs cs → Tell (looked (change t f cs) bs) (change t f cs)
look-turn cs t f one keeps opens turns bs r = subst (λ z. Tell (looked (change t f cs) z) (change t f cs)) (map-id bs) (look-change cs t f (λ a. a) one keeps opens turned (λ a c m q s. s) bs r)
  where
    turned : (a : Account) (c : Conn) → Memᴰ c cs → c.mine ≡ t → gone c.phase ≡ false → Tells a c → Tells (seen (by_tag a.tag (change t f cs)) a) (f c)
    turned a c m e g s = let d = turns c m e g in tells_look (change t f cs) (one' cs t f (λ a. a) one keeps opens) opens a (f c) (s.rest ++ d.more) (at-change cs t f (λ a. a) one keeps opens c m e g) d.lives (s.tag ∙ sym d.mine) (s.given ∙ sym d.given)
        (sym (append_assoc a.taken s.rest d.more) ∙ ap (λ z. z ++ d.more) s.taken ∙ d.got) (s.count g ∙ sym d.taken) (ap (λ z. z || is_open (f c).phase) s.opened ∙ d.opened)

-- a connection that is gone now
pub look-gone : (cs : List Conn) (t : ℕ) → apart (tags cs) ≡ true → ((c : Conn) → Memᴰ c (change t (in_phase Gone) cs) → is_open c.phase ≡ true → c.opened ≡ true) → (bs : List Account) → Tell bs cs → Tell (looked (change t (in_phase Gone) cs) bs) (change t (in_phase Gone) cs)
look-gone cs t one opens bs r = subst (λ z. Tell (looked (change t (in_phase Gone) cs) z) (change t (in_phase Gone) cs)) (map-id bs) (look-change cs t (in_phase Gone) (λ a. a) one (λ _. refl) opens over (λ a c m q s. s) bs r)
  where
    ended : (a : Account) (c : Conn) → Tells a c → Tells a (in_phase Gone c)
    ended a c s = record { tag = s.tag; peer = s.peer; opened = s.opened; given = s.given; closed = s.closed; arrived = s.arrived; rest = s.rest; taken = s.taken; count = λ z. false_true _ z refl; heard = s.heard; told = s.told; upto = s.upto; all = s.all }

    over : (a : Account) (c : Conn) → Memᴰ c cs → c.mine ≡ t → gone c.phase ≡ false → Tells a c → Tells (seen (by_tag a.tag (change t (in_phase Gone) cs)) a) (in_phase Gone c)
    over a c m e g s = tells_gone (change t (in_phase Gone) cs) (one' cs t (in_phase Gone) (λ a. a) one (λ _. refl) opens) opens a (in_phase Gone c) (at-change cs t (in_phase Gone) (λ a. a) one (λ _. refl) opens c m e g) refl (ended a c s)

wrote-same : (u t : ℕ) (bs : List ℕ) → u ≡ t → wrote u t bs ≡ bs
wrote-same u t bs e = cond-true (eqb t u) bs [] (eq-eqb t u (sym e))

pub wrote-other : (u t : ℕ) (bs : List ℕ) → (u ≡ t → ⊥) → wrote u t bs ≡ []
wrote-other u t bs n = cond-false (eqb t u) bs [] (ne_eqb t u (λ e. n (sym e)))

taken_now : (k n a g u v : ℕ) → u ≡ a → v ≡ n → n ≡ min k (g - a) → a ≤ g → u + v ≡ lower (a + k) g
taken_now k n a g u v p q r l = grind (arith, nat_tests)

-- what is found is all that has the tag
module _ (cs : List Conn) (t : ℕ) (x : Conn) (one : apart (tags cs) ≡ true) (found : by_tag t cs ≡ There x) where
  is_found : (c : Conn) → Memᴰ c cs → c.mine ≡ t → c ≡ x
  is_found c m e = let (n, q, g) = by_tag_mem t cs x found in one_tag cs c x one m n (e ∙ sym q)

  not_this : (c : Conn) → Memᴰ c cs → (c.mine ≡ t → gone c.phase ≡ true) → c.mine ≡ t → ⊥
  not_this c m q e = let (n, _, g) = by_tag_mem t cs x found in false_true _ (ap (λ z. gone z.phase) (is_found c m e) ∙ g) (q e)

  -- bytes given
  pub look-gave : (bs : List ℕ) → x.closed ≡ false → ((c : Conn) → Memᴰ c (change t (gives bs) cs) → is_open c.phase ≡ true → c.opened ≡ true) →
      (as₁ : List Account) → Tell as₁ cs → Tell (looked (change t (gives bs) cs) (map (gave t bs) as₁)) (change t (gives bs) cs)
  look-gave bs free opens as₁ r = look-change cs t (gives bs) (gave t bs) one (λ _. refl) opens edit others as₁ r
    where
      edit : (a : Account) (c : Conn) → Memᴰ c cs → c.mine ≡ t → gone c.phase ≡ false → Tells a c → Tells (seen (by_tag a.tag (change t (gives bs) cs)) (gave t bs a)) (gives bs c)
      edit a c m e g s = let i = at-change cs t (gives bs) (gave t bs) one (λ _. refl) opens c m e g in
          tells_look (change t (gives bs) cs) (one' cs t (gives bs) (gave t bs) one (λ _. refl) opens) opens (gave t bs a) (gives bs c) s.rest i g s.tag
          (ap (λ z. a.given ++ z) (wrote-same a.tag t bs (s.tag ∙ e)) ∙ ap (λ z. z ++ bs) s.given ∙ sym (cond-false c.closed c.given (c.given ++ bs) (ap (λ z. z.closed) (is_found c m e) ∙ free)))
          s.taken (s.count g) (opened_so a.opened c.opened c.phase s.opened (opens (gives bs c) i))

      others : (a : Account) (c : Conn) → Memᴰ c cs → (c.mine ≡ t → gone c.phase ≡ true) → Tells a c → Tells (gave t bs a) c
      others a c m q s = record { tag = s.tag; peer = s.peer; opened = s.opened; given = ap (λ z. a.given ++ z) (wrote-other a.tag t bs (λ e. not_this c m q (sym s.tag ∙ e))) ∙ append-nil a.given ∙ s.given; closed = s.closed; arrived = s.arrived; rest = s.rest; taken = s.taken; count = s.count; heard = s.heard; told = s.told; upto = s.upto; all = s.all }

  -- bytes taken
  pub look-took : (k n : ℕ) → n ≡ min k (length x.got - x.taken) → x.taken ≤ length x.got → ((c : Conn) → Memᴰ c (change t (takes k) cs) → is_open c.phase ≡ true → c.opened ≡ true) →
      (as₁ : List Account) → Tell as₁ cs → Tell (looked (change t (takes k) cs) (map (took t (take n (drop x.taken x.got))) as₁)) (change t (takes k) cs)
  look-took k n count few opens as₁ r = look-change cs t (takes k) (took t bs) one (λ _. refl) opens edit others as₁ r
    where
      bs : List ℕ
      bs = take n (drop x.taken x.got)

      many : length bs ≡ n
      many = length-take n (drop x.taken x.got) ∙ omega (arith, count, length-drop x.taken x.got)

      -- what was taken, what is taken now, and the rest
      parts : (a : Account) → Tells a x → gone x.phase ≡ false → (a.taken ++ bs) ++ drop n (drop x.taken x.got) ≡ x.got
      parts a s g = append_assoc a.taken bs (drop n (drop x.taken x.got)) ∙ ap (λ z. a.taken ++ z) (take-append-drop n (drop x.taken x.got) ∙ ap (drop x.taken) (sym s.taken) ∙ drop_at a.taken s.rest x.taken (s.count g)) ∙ s.taken

      longer : (a : Account) → length a.taken ≡ x.taken → length (a.taken ++ bs) ≡ lower (x.taken + k) (length x.got)
      longer a e = length-append a.taken bs ∙ taken_now k n x.taken (length x.got) (length a.taken) (length bs) e many count few

      edit_x : (a : Account) → Tells a x → Memᴰ x cs → x.mine ≡ t → gone x.phase ≡ false → Tells (seen (by_tag a.tag (change t (takes k) cs)) (took t bs a)) (takes k x)
      edit_x a s m e g = let i = at-change cs t (takes k) (took t bs) one (λ _. refl) opens x m e g in let w = wrote-same a.tag t bs (s.tag ∙ e) in
          tells_look (change t (takes k) cs) (one' cs t (takes k) (took t bs) one (λ _. refl) opens) opens (took t bs a) (takes k x) (drop n (drop x.taken x.got)) i g s.tag s.given
          (ap (λ z. (a.taken ++ z) ++ drop n (drop x.taken x.got)) w ∙ parts a s g) (ap (λ z. length (a.taken ++ z)) w ∙ longer a (s.count g))
          (opened_so a.opened x.opened x.phase s.opened (opens (takes k x) i))

      edit : (a : Account) (c : Conn) → Memᴰ c cs → c.mine ≡ t → gone c.phase ≡ false → Tells a c → Tells (seen (by_tag a.tag (change t (takes k) cs)) (took t bs a)) (takes k c)
      edit a c m e g s = let q = is_found c m e in subst (λ z. Tells (seen (by_tag a.tag (change t (takes k) cs)) (took t bs a)) (takes k z)) (sym q)
          (edit_x a (subst (Tells a) q s) (subst (λ z. Memᴰ z cs) q m) (ap (λ z. z.mine) (sym q) ∙ e) (ap (λ z. gone z.phase) (sym q) ∙ g))

      others : (a : Account) (c : Conn) → Memᴰ c cs → (c.mine ≡ t → gone c.phase ≡ true) → Tells a c → Tells (took t bs a) c
      others a c m q s = let w = ap (λ z. a.taken ++ z) (wrote-other a.tag t bs (λ e. not_this c m q (sym s.tag ∙ e))) ∙ append-nil a.taken in
          record { tag = s.tag; peer = s.peer; opened = s.opened; given = s.given; closed = s.closed; arrived = s.arrived; rest = s.rest; taken = ap (λ z. z ++ s.rest) w ∙ s.taken; count = λ g. ap length w ∙ s.count g; heard = s.heard; told = s.told; upto = s.upto; all = s.all }
