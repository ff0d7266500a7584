-- What a search among lanes finds is what the model finds; and what a write to a lane, a lane more and a lane less are in the model.
use Rattle.std.proofs.Common.{◌≡◌, ℕ, suc, ◌+◌, ◌<◌, Bool, true, false, cond, not, ◌&&◌, eqb, List, [], ◌∷◌, length, Some, None, Option, sym, refl, ap, ◌∙◌, subst, ⊎_elim, arith}
use mathlib.Core.List.{Memᴰ}
use Rattle.std.proofs.lemmas.Bool.{and_right, cases_eq, eq-eqb, eqb-true, false≢true, or_cases, or_left, or_right}
use Rattle.std.proofs.lemmas.Bool.Decides.{nat_tests}
use Rattle.hold.specs.Code.{living}
use Rattle.hold.specs.Conn.{Conn}
use Rattle.hold.specs.Promise.{tags}
use Rattle.hold.specs.World.{is_in as is_tag, Found, NotThere, There, change, gone}
use Rattle.lanes.specs.Used.{Separate, is_in, without}
use Rattle.table.specs.Housed.{Housed, forgot, held, left, none, seek}

first_in : (l : ℕ) (ls : List ℕ) → is_in l (l ∷ ls) ≡ true
first_in l ls = grind (arith, nat_tests)

later_in : (k l : ℕ) (ls : List ℕ) → is_in k ls ≡ true → is_in k (l ∷ ls) ≡ true
later_in k l ls m = or_right (eqb l k) (is_in k ls) m

-- what is found is there, and passes
pub seek_finds : (test : ℕ → Bool) (l : ℕ) (ls : List ℕ) → Some l ≡ seek test ls → (is_in l ls ≡ true) × (test l ≡ true)
seek_finds test l [] e = absurd cc
seek_finds test l (k ∷ ks) e = go (test k) refl (seek_finds test l ks)
  where
    go : (b : Bool) → test k ≡ b → (Some l ≡ seek test ks → (is_in l ks ≡ true) × (test l ≡ true)) → (is_in l (k ∷ ks) ≡ true) × (test l ≡ true)
    go true t ih =
        let e2 = rw t at e in
        let e3 : k ≡ l = cc in
        (grind (arith, nat_tests), cc)
    go false t ih = let r = ih (rw t at e) in (later_in l k ks r.0, r.1)

-- of those that do not pass none is found, and the other way round
pub seek_none : (test : ℕ → Bool) (ls : List ℕ) → ((l : ℕ) → is_in l ls ≡ true → test l ≡ false) → None ≡ seek test ls
seek_none test [] h = refl
seek_none test (k ∷ ks) h =
    rw (h k (first_in k ks)) (seek_none test ks (λ l m. h l (later_in l k ks m)))

-- what was found is what the model found
abbrev pub Agree : (ℕ → Conn → Type 0) → Option ℕ → Found → Type 0
Agree P None NotThere = Unit {0}
Agree P None (There c) = ⊥
Agree P (Some l) NotThere = ⊥
Agree P (Some l) (There c) = P l c

module _ (P Q : ℕ → Conn → Type 0) (test : ℕ → Bool) (mtest : Conn → Bool)
    (same : (l : ℕ) (c : Conn) → P l c → test l ≡ mtest c) (skip : (c : Conn) → gone c.phase ≡ true → mtest c ≡ false) (skips : (l : ℕ) (c : Conn) → Q l c → test l ≡ false) where
  pub agree : (by : List Conn → Found) → by [] ≡ NotThere → ((c : Conn) (cs : List Conn) → by (c ∷ cs) ≡ cond (mtest c) (There c) (by cs)) →
      {ls : List ℕ} {cs : List Conn} → Housed P Q ls cs → Agree P (seek test ls) (by cs)
  agree by by_none by-more none = subst (Agree P None) (sym by_none) tt
  agree by by_none by-more {ls} (forgot {c = c} {cs = cs} g t) =
      rw (by-more c cs, skip c g) (agree by by_none by-more t)
  agree by by_none by-more (left {l = l} {ls = ls} {c = c} {cs = cs} g q t) =
      rw (by-more c cs, skip c g, skips l c q) (agree by by_none by-more t)
  agree by by_none by-more (held {l = l} {ls = ls} {c = c} {cs = cs} p t) = subst (Agree P (seek test (l ∷ ls))) (sym (by-more c cs)) (go (mtest c) refl (agree by by_none by-more t))
    where
      go : (b : Bool) → mtest c ≡ b → Agree P (seek test ls) (by cs) → Agree P (seek test (l ∷ ls)) (cond (mtest c) (There c) (by cs))
      go true e ih = rw (same l c p, e) p
      go false e ih = rw (same l c p, e) ih

-- what the model found, by what was found
pub not_there : (P : ℕ → Conn → Type 0) (o : Option ℕ) (m : Found) → None ≡ o → Agree P o m → m ≡ NotThere
not_there P None NotThere e a = refl
not_there P None (There c) e a = absurd a
not_there P (Some l) m e a = absurd cc

pub is_there_lem : (P : ℕ → Conn → Type 0) (o : Option ℕ) (m : Found) (l : ℕ) → Some l ≡ o → Agree P o m → (c : Conn) × (m ≡ There c) × P l c
is_there_lem P None m l e a = absurd cc
is_there_lem P (Some k) NotThere l e a = absurd a
is_there_lem P (Some k) (There c) l e a = let q : k ≡ l = cc in (c, refl, subst (λ j. P j c) q a)

-- what each lane has carries over
pub carry : (P Q P' Q' : ℕ → Conn → Type 0) {ls : List ℕ} {cs : List Conn} →
    ((l : ℕ) (c : Conn) → is_in l ls ≡ true → P l c → P' l c) → ((l : ℕ) (c : Conn) → is_in l ls ≡ true → Q l c → Q' l c) → Housed P Q ls cs → Housed P' Q' ls cs
carry P Q P' Q' p q none = none
carry P Q P' Q' p q (forgot g t) = forgot g (carry P Q P' Q' p q t)
carry P Q P' Q' p q (left {l = l} {ls = ls} {c = c} g r t) =
    left g (q l c (first_in l ls) r) (carry P Q P' Q' (λ k d m. p k d (later_in k l ls m)) (λ k d m. q k d (later_in k l ls m)) t)
carry P Q P' Q' p q (held {l = l} {ls = ls} {c = c} r t) =
    held (p l c (first_in l ls) r) (carry P Q P' Q' (λ k d m. p k d (later_in k l ls m)) (λ k d m. q k d (later_in k l ls m)) t)

-- two lanes differ, if one of them is among some and the other is not
differ : (i l : ℕ) (ls : List ℕ) → is_in l ls ≡ false → is_in i ls ≡ true → l ≡ i → ⊥
differ i l ls a b e = false≢true (sym a ∙ ap (λ k. is_in k ls) e ∙ b)

-- lanes among which i is not, where no other than i changes
pub elsewhere : (P Q P' Q' : ℕ → Conn → Type 0) (i : ℕ) → ((l : ℕ) (c : Conn) → (l ≡ i → ⊥) → P l c → P' l c) → ((l : ℕ) (c : Conn) → (l ≡ i → ⊥) → Q l c → Q' l c) →
    {ls : List ℕ} {cs : List Conn} → is_in i ls ≡ false → Housed P Q ls cs → Housed P' Q' ls cs
elsewhere P Q P' Q' i p q {ls} h t = carry P Q P' Q' (λ l c m. p l c (λ e. differ l i ls h m (sym e))) (λ l c m. q l c (λ e. differ l i ls h m (sym e))) t

-- the model's test for the connection of a tag
abbrev pub tagged : ℕ → Conn → Bool
tagged tag c = eqb c.mine tag && not (gone c.phase)

pub tagged-gone : (tag : ℕ) (c : Conn) → gone c.phase ≡ true → tagged tag c ≡ false
tagged-gone tag c g = and_right (eqb c.mine tag) (not (gone c.phase)) (ap not g)

-- the connection of a tag is changed, and so is what its lane i has
module _ (P Q P' Q' : ℕ → Conn → Type 0) (tag : ℕ) (f : Conn → Conn) (test : ℕ → Bool)
    (same : (l : ℕ) (c : Conn) → P l c → test l ≡ tagged tag c) (skips : (l : ℕ) (c : Conn) → Q l c → test l ≡ false) where
  module _ (i : ℕ) (acts : (c : Conn) → P i c → P' i (f c)) (still : (l : ℕ) (c : Conn) → (l ≡ i → ⊥) → P l c → P' l c) (still_q : (l : ℕ) (c : Conn) → (l ≡ i → ⊥) → Q l c → Q' l c) where
    pub changes : {ls : List ℕ} {cs : List Conn} → Separate ls → Some i ≡ seek test ls → Housed P Q ls cs → Housed P' Q' ls (change tag f cs)
    unfolding change
    changes s e none = absurd cc
    changes {ls} s e (forgot {c = c} {cs = cs} g t) =
        rw (tagged-gone tag c g) (forgot g (changes s e t))
    changes s e (left {l = l} {ls = ls} {c = c} {cs = cs} g q t) =
        let e2 = rw (skips l c q) at e in
        rw (tagged-gone tag c g) (left g (still_q l c (differ i l ls s.1 (seek_finds test i ls e2).0) q) (changes s.2 e2 t))
    changes s e (held {l = l} {ls = ls} {c = c} {cs = cs} p t) = go (tagged tag c) refl (λ q. changes s.2 q t)
      where
        go : (b : Bool) → tagged tag c ≡ b → (Some i ≡ seek test ls → Housed P' Q' ls (change tag f cs)) → Housed P' Q' (l ∷ ls) (cond (tagged tag c) (f c ∷ cs) (c ∷ change tag f cs))
        go true b ih =
            let e2 = rw (same l c p, b) at e in
            let e3 : i ≡ l = cc in
            rw b (held (subst (λ k. P' k (f c)) e3 (acts c (subst (λ k. P k c) (sym e3) p))) (elsewhere P Q P' Q' i still still_q (ap (λ k. is_in k ls) e3 ∙ s.1) t))
        go false b ih =
            let e2 = rw (same l c p, b) at e in
            rw b (held (still l c (differ i l ls s.1 (seek_finds test i ls e2).0) p) (ih e2))

  -- nobody has the tag: nothing changes
  pub unchanged : {ls : List ℕ} {cs : List Conn} → None ≡ seek test ls → Housed P Q ls cs → Housed P Q ls (change tag f cs)
  unfolding change
  unchanged e none = none
  unchanged {ls} e (forgot {c = c} {cs = cs} g t) =
      rw (tagged-gone tag c g) (forgot g (unchanged e t))
  unchanged e (left {l = l} {ls = ls} {c = c} {cs = cs} g q t) =
      rw (tagged-gone tag c g) (left g q (unchanged (rw (skips l c q) at e) t))
  unchanged e (held {l = l} {ls = ls} {c = c} {cs = cs} p t) = go (tagged tag c) refl (λ q. unchanged q t)
    where
      go : (b : Bool) → tagged tag c ≡ b → (None ≡ seek test ls → Housed P Q ls (change tag f cs)) → Housed P Q (l ∷ ls) (cond (tagged tag c) (f c ∷ cs) (c ∷ change tag f cs))
      go true b ih = let e2 = rw (same l c p, b) at e in absurd cc
      go false b ih = rw b (held p (ih (rw (same l c p, b) at e)))

-- a lane whose connection is gone is let go
pub taken_out : (P Q : ℕ → Conn → Type 0) (i : ℕ) → ((c : Conn) → P i c → gone c.phase ≡ true) → {ls : List ℕ} {cs : List Conn} → Housed P Q ls cs → Housed P Q (without i ls) cs
taken_out P Q i over none = none
taken_out P Q i over (forgot g t) = forgot g (taken_out P Q i over t)
taken_out P Q i over (left {l = l} {ls = ls} {c = c} {cs = cs} g q t) = go (eqb l i) (taken_out P Q i over t)
  where
    go : (b : Bool) → Housed P Q (without i ls) cs → Housed P Q (cond b ls (l ∷ without i ls)) (c ∷ cs)
    go true r = forgot g t
    go false r = left g q r
taken_out P Q i over (held {l = l} {ls = ls} {c = c} {cs = cs} p t) = go (eqb l i) refl (taken_out P Q i over t)
  where
    go : (b : Bool) → eqb l i ≡ b → Housed P Q (without i ls) cs → Housed P Q (cond b ls (l ∷ without i ls)) (c ∷ cs)
    go true e r = forgot (over c (subst (λ k. P k c) (eqb-true l i e) p)) t
    go false e r = held p r

-- what a lane i has of a connection that is gone becomes less, or is as it was
module _ (P Q P' Q' : ℕ → Conn → Type 0) (i : ℕ) (over : (c : Conn) → P i c → (gone c.phase ≡ true) × Q i c) (less : (c : Conn) → Q i c → Q' i c)
    (still : (l : ℕ) (c : Conn) → (l ≡ i → ⊥) → P l c → P' l c) (still_q : (l : ℕ) (c : Conn) → (l ≡ i → ⊥) → Q l c → Q' l c) where
  -- with the connection that it is
  abbrev Spent : List ℕ → List Conn → Type 0
  Spent ls cs = Housed P' Q' ls cs × ((d : Conn) × Memᴰ d cs × (gone d.phase ≡ true) × Q i d)

  also : {ls : List ℕ} {c : Conn} {cs : List Conn} → Housed P' Q' ls (c ∷ cs) → ((d : Conn) × Memᴰ d cs × (gone d.phase ≡ true) × Q i d) → Spent ls (c ∷ cs)
  also t m = (t, (m.0, Memᴰ.tail m.1, m.2, m.3))

  here : {l : ℕ} {ls : List ℕ} {c : Conn} {cs : List Conn} → l ≡ i → is_in l ls ≡ false → gone c.phase ≡ true → Q i c → Housed P Q ls cs → Spent (l ∷ ls) (c ∷ cs)
  here {l} {ls} {c} {cs} e h g q t = (
    left g (subst (λ k. Q' k c) (sym e) (less c q)) (elsewhere P Q P' Q' i still still_q (ap (λ k. is_in k ls) (sym e) ∙ h) t),
    (c, Memᴰ.head refl, g, q),
  )

  later : (l : ℕ) (ls : List ℕ) → is_in i (l ∷ ls) ≡ true → (l ≡ i → ⊥) → is_in i ls ≡ true
  later l ls m ne = grind (arith, nat_tests)

  pub spent : {ls : List ℕ} {cs : List Conn} → Separate ls → is_in i ls ≡ true → Housed P Q ls cs → Spent ls cs
  spent s m none = absurd cc
  spent s m (forgot g t) = let r = spent s m t in also (forgot g r.0) r.1
  spent s m (left {l = l} {ls = ls} {c = c} {cs = cs} g q t) = ⊎_elim {0, 0, 0} it (away (λ n. spent s.2 n t)) (cases_eq l i)
    where
      it : l ≡ i → Spent (l ∷ ls) (c ∷ cs)
      it e = here e s.1 g (subst (λ k. Q k c) e q) t

      away : (is_in i ls ≡ true → Spent ls cs) → (l ≡ i → ⊥) → Spent (l ∷ ls) (c ∷ cs)
      away ih ne = let r = ih (later l ls m ne) in also (left g (still_q l c ne q) r.0) r.1
  spent s m (held {l = l} {ls = ls} {c = c} {cs = cs} p t) = ⊎_elim {0, 0, 0} it (away (λ n. spent s.2 n t)) (cases_eq l i)
    where
      it : l ≡ i → Spent (l ∷ ls) (c ∷ cs)
      it e = let o = over c (subst (λ k. P k c) e p) in here e s.1 o.0 o.1 t

      away : (is_in i ls ≡ true → Spent ls cs) → (l ≡ i → ⊥) → Spent (l ∷ ls) (c ∷ cs)
      away ih ne = let r = ih (later l ls m ne) in also (held (still l c ne p) r.0) r.1

-- where no lane has one that is gone, as many live as there are lanes
pub all_live : (P Q : ℕ → Conn → Type 0) {ls : List ℕ} {cs : List Conn} → ((l : ℕ) (c : Conn) → is_in l ls ≡ true → P l c → gone c.phase ≡ false) → ((l : ℕ) (c : Conn) → is_in l ls ≡ true → Q l c → ⊥) →
    Housed P Q ls cs → living cs ≡ length ls
unfolding living
all_live P Q p q none = refl
all_live P Q p q (forgot {c = c} {cs = cs} g t) = ap (λ b. cond b 0 1 + living cs) g ∙ (let i = all_live P Q p q t in omega arith)
all_live P Q p q (left {l = l} {ls = ls} {c = c} g r t) = absurd (q l c (first_in l ls) r)
all_live P Q p q (held {l = l} {ls = ls} {c = c} {cs = cs} r t) =
    let i = all_live P Q (λ k d m. p k d (later_in k l ls m)) (λ k d m. q k d (later_in k l ls m)) t in
    ap (λ b. cond b 0 1 + living cs) (p l c (first_in l ls) r) ∙ (let e : 1 + living cs ≡ suc (length ls) = omega arith in e)

-- each lane is a lane
pub lane_low : (l : ℕ) (ls : List ℕ) → Separate ls → is_in l ls ≡ true → l < 16
lane_low l [] s m = absurd cc
lane_low l (k ∷ ks) s m = let r = lane_low l ks s.2 in grind (arith, nat_tests, s.0)

-- the tag of whatever lives in a lane is one of the model's tags
pub lane_tag : (P Q : ℕ → Conn → Type 0) (l t : ℕ) → ((c : Conn) → P l c → c.mine ≡ t) → ((c : Conn) → Q l c → c.mine ≡ t) → {ls : List ℕ} {cs : List Conn} → is_in l ls ≡ true → Housed P Q ls cs → is_tag t (tags cs) ≡ true
unfolding is_tag tags
lane_tag P Q l t p q m none = absurd cc
lane_tag P Q l t p q m (forgot {c = c} {cs = cs} g h) = or_right (eqb c.mine t) (is_tag t (tags cs)) (lane_tag P Q l t p q m h)
lane_tag P Q l t p q m (left {l = k} {ls = ls} {c = c} {cs = cs} g r h) = ⊎_elim {0, 0, 0}
    (λ e. or_left (eqb c.mine t) (is_tag t (tags cs)) (eq-eqb c.mine t (q c (subst (λ j. Q j c) (eqb-true k l e) r))))
    (λ e. or_right (eqb c.mine t) (is_tag t (tags cs)) (lane_tag P Q l t p q e h)) (or_cases (eqb k l) (is_in l ls) m)
lane_tag P Q l t p q m (held {l = k} {ls = ls} {c = c} {cs = cs} r h) = ⊎_elim {0, 0, 0}
    (λ e. or_left (eqb c.mine t) (is_tag t (tags cs)) (eq-eqb c.mine t (p c (subst (λ j. P j c) (eqb-true k l e) r))))
    (λ e. or_right (eqb c.mine t) (is_tag t (tags cs)) (lane_tag P Q l t p q e h)) (or_cases (eqb k l) (is_in l ls) m)
