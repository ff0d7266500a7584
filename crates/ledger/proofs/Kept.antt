-- A book keeps the connections of an end after each step, once what was done is written down and a look is taken.
use Rattle.std.proofs.Common.{◌≡◌, ℕ, ◌-◌, min, true, false, List, [], ◌∷◌, ◌++◌, map, length, take, drop, vec_items, sym, refl, ap, ◌∙◌, subst, ⊎_elim}
use Rattle.std.proofs.lemmas.Bool.{cases_Bool}
use Rattle.hold.specs.Packet.{Settings, Packet, Kind}
use Rattle.hold.specs.Conn.{Conn, Asked, Gone, new, in_phase, gives, closes, takes}
use Rattle.hold.specs.World.{Who, World, end, put, added, changed, by_tag, Found, NotThere, There, is_in, on_kind}
use Rattle.hold.specs.Promise.{tags}
use Rattle.hold.proofs.Bricks.{false_true}
use Rattle.hold.proofs.Table.{mem_tags, by_tag_mem, tags-change}
use Rattle.hold.proofs.Puts.{end-put}
use Rattle.ledger.specs.Tells.{begun, with_new, gave, took}
use Rattle.ledger.specs.Books.{fresh, entries, bytes_of, accounts_of, accounts, Keeps, Looked, Met}
use Rattle.ledger.specs.declared.book.Book.{Book}
use Rattle.ledger.specs.declared.record.Entry.{Entry}
use Rattle.ledger.proofs.Looks.{wrote-other}
use Rattle.ledger.proofs.Steps.{Sound, After, Wider, in_new, after-new, after-gone, after-gave, after-took, after-close, after-heard}
use Rattle.ledger.proofs.Accounts.{bytes_wrote, accounts-gave, accounts-took, accounts-begun, keeps_look}

-- no bytes of a tag that is not there
abbrev NoneOf : List Entry → List Conn → Type 0
NoneOf es cs = (t : ℕ) → is_in t (tags cs) ≡ false → bytes_of t es ≡ []

none_wider : (es : List Entry) (cs ds : List Conn) → ((u : ℕ) → is_in u (tags cs) ≡ true → is_in u (tags ds) ≡ true) → NoneOf es cs → NoneOf es ds
none_wider es cs ds w n t h = n t (⊎_elim (λ k. false_true _ h (w t k)) (λ k. k) (cases_Bool (is_in t (tags cs))))

none_wrote : (es : List Entry) (cs : List Conn) (t : ℕ) (x : Conn) (bs : List ℕ) → by_tag t cs ≡ There x → NoneOf es cs → NoneOf (es ++ entries t bs) cs
none_wrote es cs t x bs f n u h = bytes_wrote u t es bs ∙ ap (λ z. bytes_of u es ++ z) (wrote-other u t bs other) ∙ ap (λ z. z ++ []) (n u h)
  where
    other : u ≡ t → ⊥
    other e = let (m, q, _) = by_tag_mem t cs x f in false_true _ h (ap (λ z. is_in z (tags cs)) (e ∙ sym q) ∙ mem_tags cs x m)

module _ (o : Who) (w : World) (s : Sound (end o w).conns w.drawn) (x : Book) (k : Keeps x (end o w).conns) where
  -- the tags of a changed end
  wider_change : (t : ℕ) (f : Conn → Conn) (ps : List Packet) → ((c : Conn) → (f c).mine ≡ c.mine) → Wider o w (put o (changed t f (end o w)) ps [] w)
  wider_change t f ps keeps u h = ap (λ e. is_in u (tags e.conns)) (end-put o (changed t f (end o w)) ps [] w) ∙ ap (is_in u) (tags-change t f (end o w).conns keeps) ∙ h

  -- nothing is written down but what is seen
  seen-only : (v : World) (y : Book) → Wider o w v → After o v (accounts x) → Looked (end o v).conns x y → Keeps y (end o v).conns
  seen-only v y wide a l = keeps_look x y (end o v).conns (none_wider _ _ _ wide k.none_given) (none_wider _ _ _ wide k.none_taken) l a

  pub keeps_close : (t : ℕ) (y : Book) → Looked (end o (put o (changed t closes (end o w)) [] [] w)).conns x y → Keeps y (end o (put o (changed t closes (end o w)) [] [] w)).conns
  keeps_close t y l = seen-only (put o (changed t closes (end o w)) [] [] w) y (wider_change t closes [] (λ _. refl)) (after-close o w s (accounts x) k.tell t) l

  pub keeps_gone : (t : ℕ) (ps : List Packet) (y : Book) → Looked (end o (put o (changed t (in_phase Gone) (end o w)) ps [] w)).conns x y → Keeps y (end o (put o (changed t (in_phase Gone) (end o w)) ps [] w)).conns
  keeps_gone t ps y l = seen-only (put o (changed t (in_phase Gone) (end o w)) ps [] w) y (wider_change t (in_phase Gone) ps (λ _. refl)) (after-gone o w s (accounts x) k.tell t ps) l

  -- bytes given
  pub keeps_gave : (t : ℕ) (c : Conn) (bs : List ℕ) (y z : Book) → by_tag t (end o w).conns ≡ There c → c.closed ≡ false → vec_items y.records ≡ vec_items x.records → vec_items y.given ≡ vec_items x.given ++ entries t bs → vec_items y.taken ≡ vec_items x.taken →
      Looked (end o (put o (changed t (gives bs) (end o w)) [] [] w)).conns y z → Keeps z (end o (put o (changed t (gives bs) (end o w)) [] [] w)).conns
  keeps_gave t c bs y z f free er eg et l = keeps_look y z (end o (put o (changed t (gives bs) (end o w)) [] [] w)).conns
      (λ u h. ap (bytes_of u) eg ∙ none_wider _ _ _ (wider_change t (gives bs) [] (λ _. refl)) (none_wrote _ _ t c bs f k.none_given) u h)
      (λ u h. ap (bytes_of u) et ∙ none_wider _ _ _ (wider_change t (gives bs) [] (λ _. refl)) k.none_taken u h) l
      (subst (After o (put o (changed t (gives bs) (end o w)) [] [] w)) (sym same) (after-gave o w s (accounts x) k.tell t c bs f free))
    where
      same : accounts y ≡ map (gave t bs) (accounts x)
      same = ap (λ r. accounts_of (vec_items y.given) (vec_items y.taken) r) er ∙ ap (λ g. accounts_of g (vec_items y.taken) (vec_items x.records)) eg ∙ ap (λ h. accounts_of (vec_items x.given ++ entries t bs) h (vec_items x.records)) et ∙
          accounts-gave (vec_items x.given) (vec_items x.taken) (vec_items x.records) t bs

  -- bytes taken
  pub keeps_took : (t : ℕ) (c : Conn) (n m : ℕ) (y z : Book) → by_tag t (end o w).conns ≡ There c → m ≡ min n (length c.got - c.taken) → vec_items y.records ≡ vec_items x.records → vec_items y.given ≡ vec_items x.given →
      vec_items y.taken ≡ vec_items x.taken ++ entries t (take m (drop c.taken c.got)) → Looked (end o (put o (changed t (takes n) (end o w)) [] [] w)).conns y z → Keeps z (end o (put o (changed t (takes n) (end o w)) [] [] w)).conns
  keeps_took t c n m y z f count er eg et l = keeps_look y z (end o (put o (changed t (takes n) (end o w)) [] [] w)).conns
      (λ u h. ap (bytes_of u) eg ∙ none_wider _ _ _ (wider_change t (takes n) [] (λ _. refl)) k.none_given u h)
      (λ u h. ap (bytes_of u) et ∙ none_wider _ _ _ (wider_change t (takes n) [] (λ _. refl)) (none_wrote _ _ t c _ f k.none_taken) u h) l
      (subst (After o (put o (changed t (takes n) (end o w)) [] [] w)) (sym same) (after-took o w s (accounts x) k.tell t c n m f count))
    where
      same : accounts y ≡ map (took t (take m (drop c.taken c.got))) (accounts x)
      same = ap (λ r. accounts_of (vec_items y.given) (vec_items y.taken) r) er ∙ ap (λ g. accounts_of g (vec_items y.taken) (vec_items x.records)) eg ∙ ap (λ h. accounts_of (vec_items x.given) h (vec_items x.records)) et ∙
          accounts-took (vec_items x.given) (vec_items x.taken) (vec_items x.records) t (take m (drop c.taken c.got))

  -- a connection more
  module _ (t : ℕ) (f : is_in t w.drawn ≡ false) where
    not_known : is_in t (tags (end o w).conns) ≡ false
    not_known = ⊎_elim (λ h. false_true _ f (s.known t h)) (λ h. h) (cases_Bool (is_in t (tags (end o w).conns)))

    begun-accounts : (y : Book) → vec_items y.records ≡ vec_items x.records ++ fresh t ∷ [] → vec_items y.given ≡ vec_items x.given → vec_items y.taken ≡ vec_items x.taken → accounts y ≡ begun t ∷ accounts x
    begun-accounts y er eg et = ap (λ r. accounts_of (vec_items y.given) (vec_items y.taken) r) er ∙ ap (λ g. accounts_of g (vec_items y.taken) (vec_items x.records ++ fresh t ∷ [])) eg ∙ ap (λ h. accounts_of (vec_items x.given) h (vec_items x.records ++ fresh t ∷ [])) et ∙
        accounts-begun (vec_items x.given) (vec_items x.taken) (vec_items x.records) t (k.none_given t not_known) (k.none_taken t not_known)

    pub keeps_opened : (ps : List Packet) (y z : Book) → vec_items y.records ≡ vec_items x.records ++ fresh t ∷ [] → vec_items y.given ≡ vec_items x.given → vec_items y.taken ≡ vec_items x.taken →
        Looked (end o (put o (added (new Asked t 0) (end o w)) ps (t ∷ []) w)).conns y z → Keeps z (end o (put o (added (new Asked t 0) (end o w)) ps (t ∷ []) w)).conns
    keeps_opened ps y z er eg et l = keeps_look y z _ (λ u h. ap (bytes_of u) eg ∙ none_wider _ _ _ wide k.none_given u h) (λ u h. ap (bytes_of u) et ∙ none_wider _ _ _ wide k.none_taken u h) l
        (subst (After o (put o (added (new Asked t 0) (end o w)) ps (t ∷ []) w)) (sym (begun-accounts y er eg et)) (after-new o w s (accounts x) k.tell Asked t 0 ps refl refl f))
      where
        wide : Wider o w (put o (added (new Asked t 0) (end o w)) ps (t ∷ []) w)
        wide u h = ap (λ e. is_in u (tags e.conns)) (end-put o (added (new Asked t 0) (end o w)) ps (t ∷ []) w) ∙ in_new u (new Asked t 0) (end o w).conns h

    same-accounts : (y : Book) → vec_items y.records ≡ vec_items x.records → vec_items y.given ≡ vec_items x.given → vec_items y.taken ≡ vec_items x.taken → accounts y ≡ accounts x
    same-accounts y er eg et = ap (λ r. accounts_of (vec_items y.given) (vec_items y.taken) r) er ∙ ap (λ g. accounts_of g (vec_items y.taken) (vec_items x.records)) eg ∙ ap (λ h. accounts_of (vec_items x.given) h (vec_items x.records)) et

    -- a packet heard
    pub keeps_heard : (cfg : Settings) (p : Packet) (h : Kind) (y z : Book) → Met t (by_tag t (end o (on_kind cfg o p t h w)).conns) x y → Looked (end o (on_kind cfg o p t h w)).conns y z → Keeps z (end o (on_kind cfg o p t h w)).conns
    keeps_heard cfg p h y z b l = go (by_tag t (end o (on_kind cfg o p t h w)).conns) refl b
      where
        after : After o (on_kind cfg o p t h w) (with_new t (by_tag t (end o (on_kind cfg o p t h w)).conns) (accounts x)) × Wider o w (on_kind cfg o p t h w)
        after = after-heard o w s (accounts x) k.tell cfg p t f h

        told : (q : Found) → by_tag t (end o (on_kind cfg o p t h w)).conns ≡ q → accounts y ≡ with_new t q (accounts x) → vec_items y.given ≡ vec_items x.given → vec_items y.taken ≡ vec_items x.taken → Keeps z (end o (on_kind cfg o p t h w)).conns
        told q e ea eg et = keeps_look y z (end o (on_kind cfg o p t h w)).conns (λ u i. ap (bytes_of u) eg ∙ none_wider _ _ _ after.1 k.none_given u i) (λ u i. ap (bytes_of u) et ∙ none_wider _ _ _ after.1 k.none_taken u i) l
            (subst (After o (on_kind cfg o p t h w)) (ap (λ g. with_new t g (accounts x)) e ∙ sym ea) after.0)

        go : (q : Found) → by_tag t (end o (on_kind cfg o p t h w)).conns ≡ q → Met t q x y → Keeps z (end o (on_kind cfg o p t h w)).conns
        go NotThere e (er, eg, et) = told NotThere e (same-accounts y er (ap vec_items eg) (ap vec_items et)) (ap vec_items eg) (ap vec_items et)
        go (There c) e (er, eg, et) = told (There c) e (begun-accounts y er (ap vec_items eg) (ap vec_items et)) (ap vec_items eg) (ap vec_items et)
