-- The accounts of a book after something is written down.
use Rattle.std.proofs.Common.{◌≡◌, ℕ, false, eqb, List, [], ◌∷◌, ◌++◌, map, reverse, vec_items, sym, refl, ap, ◌∙◌, subst, arith}
use Rattle.std.proofs.lemmas.List.{reverse-append, map-append}
use Rattle.std.proofs.lemmas.Simd.{map-map}
use Rattle.std.proofs.lemmas.Bool.{cond_both}
use Rattle.std.proofs.lemmas.Bool.Decides.{nat_tests}
use Rattle.hold.specs.Conn.{Conn}
use Rattle.hold.specs.World.{Found, NotThere, There, by_tag, is_in}
use Rattle.hold.specs.Promise.{tags}
use Rattle.ledger.specs.Tells.{Tell, seen, looked, begun, wrote, gave, took}
use Rattle.ledger.specs.Books.{fresh, noted_by, view_of, entries, bytes_of, account, accounts_of, accounts, Keeps, Looked}
use Rattle.ledger.specs.declared.book.Book.{Book}
use Rattle.ledger.specs.declared.record.Record.{Record}
use Rattle.ledger.specs.declared.record.Entry.{Entry}

bytes_entries : (u t : ℕ) (bs : List ℕ) → bytes_of u (entries t bs) ≡ wrote u t bs
unfolding bytes_of
bytes_entries u t [] = cond_both (eqb t u) [] [] (λ z. [] ≡ z) (λ _. refl) (λ _. refl)
bytes_entries u t (b ∷ bs) = let r = bytes_entries u t bs in grind (arith, nat_tests)

bytes_more : (u : ℕ) (es fs : List Entry) → bytes_of u (es ++ fs) ≡ bytes_of u es ++ bytes_of u fs
unfolding bytes_of
bytes_more u [] fs = refl
bytes_more u (e ∷ es) fs = let r = bytes_more u es fs in grind (arith, nat_tests)

pub bytes_wrote : (u t : ℕ) (es : List Entry) (bs : List ℕ) → bytes_of u (es ++ entries t bs) ≡ bytes_of u es ++ wrote u t bs
bytes_wrote u t es bs = bytes_more u es (entries t bs) ∙ ap (λ z. bytes_of u es ++ z) (bytes_entries u t bs)

map_so : {A B : Type 0} (f g : A → B) (xs : List A) → ((x : A) → f x ≡ g x) → map f xs ≡ map g xs
map_so f g [] h = refl
map_so f g (x ∷ xs) h = ap (λ z. z ∷ map f xs) (h x) ∙ ap (λ z. g x ∷ z) (map_so f g xs h)

gave-account : (gs ts : List Entry) (t : ℕ) (bs : List ℕ) (r : Record) → account (gs ++ entries t bs) ts r ≡ gave t bs (account gs ts r)
gave-account gs ts t bs r = let e = bytes_wrote r.tag t gs bs in cc

took-account : (gs ts : List Entry) (t : ℕ) (bs : List ℕ) (r : Record) → account gs (ts ++ entries t bs) r ≡ took t bs (account gs ts r)
took-account gs ts t bs r = let e = bytes_wrote r.tag t ts bs in cc

pub accounts-gave : (gs ts : List Entry) (rs : List Record) (t : ℕ) (bs : List ℕ) → accounts_of (gs ++ entries t bs) ts rs ≡ map (gave t bs) (accounts_of gs ts rs)
accounts-gave gs ts rs t bs = map_so _ _ (reverse rs) (gave-account gs ts t bs) ∙ sym (map-map (gave t bs) (account gs ts) (reverse rs))

pub accounts-took : (gs ts : List Entry) (rs : List Record) (t : ℕ) (bs : List ℕ) → accounts_of gs (ts ++ entries t bs) rs ≡ map (took t bs) (accounts_of gs ts rs)
accounts-took gs ts rs t bs = map_so _ _ (reverse rs) (took-account gs ts t bs) ∙ sym (map-map (took t bs) (account gs ts) (reverse rs))

pub accounts-begun : (gs ts : List Entry) (rs : List Record) (t : ℕ) → bytes_of t gs ≡ [] → bytes_of t ts ≡ [] → accounts_of gs ts (rs ++ fresh t ∷ []) ≡ begun t ∷ accounts_of gs ts rs
accounts-begun gs ts rs t g h = ap (map (account gs ts)) (reverse-append rs (fresh t ∷ [])) ∙ (let e : account gs ts (fresh t) ≡ begun t = cc in ap (λ z. z ∷ accounts_of gs ts rs) e)

note-account : (gs ts : List Entry) (f : Found) (r : Record) → account gs ts (noted_by (view_of f) r) ≡ seen f (account gs ts r)
note-account gs ts NotThere r = refl
note-account gs ts (There c) r = refl

map-reverse : {A B : Type 0} (f : A → B) (xs : List A) → reverse (map f xs) ≡ map f (reverse xs)
map-reverse f [] = refl
map-reverse f (x ∷ xs) = reverse-append (f x ∷ []) (map f xs) ∙ ap (λ z. z ++ (f x ∷ [])) (map-reverse f xs) ∙ sym (map-append f (reverse xs) (x ∷ [])) ∙ ap (map f) (sym (reverse-append (x ∷ []) xs))

pub accounts-looked : (gs ts : List Entry) (rs : List Record) (cs : List Conn) → accounts_of gs ts (map (λ r. noted_by (view_of (by_tag r.tag cs)) r) rs) ≡ looked cs (accounts_of gs ts rs)
accounts-looked gs ts rs cs = ap (map (account gs ts)) (map-reverse (λ r. noted_by (view_of (by_tag r.tag cs)) r) rs) ∙ map-map (account gs ts) (λ r. noted_by (view_of (by_tag r.tag cs)) r) (reverse rs) ∙
    map_so _ _ (reverse rs) (λ r. note-account gs ts (by_tag r.tag cs) r) ∙ sym (map-map (λ a. seen (by_tag a.tag cs) a) (account gs ts) (reverse rs))

-- a book with the same items keeps the same
pub keeps_as : (x y : Book) (cs : List Conn) → vec_items y.records ≡ vec_items x.records → vec_items y.given ≡ vec_items x.given → vec_items y.taken ≡ vec_items x.taken → Keeps x cs → Keeps y cs
keeps_as x y cs r g t k = record {
  tell = subst (λ z. Tell z cs) (sym (ap (λ z. accounts_of (vec_items y.given) (vec_items y.taken) z) r ∙ ap (λ z. accounts_of z (vec_items y.taken) (vec_items x.records)) g ∙ ap (λ z. accounts_of (vec_items x.given) z (vec_items x.records)) t)) k.tell;
  none_given = λ u h. ap (bytes_of u) g ∙ k.none_given u h;
  none_taken = λ u h. ap (bytes_of u) t ∙ k.none_taken u h;
}

-- what is written down, after a look at the connections
pub keeps_look : (x y : Book) (ds : List Conn) → ((t : ℕ) → is_in t (tags ds) ≡ false → bytes_of t (vec_items x.given) ≡ []) → ((t : ℕ) → is_in t (tags ds) ≡ false → bytes_of t (vec_items x.taken) ≡ []) →
    Looked ds x y → Tell (looked ds (accounts x)) ds → Keeps y ds
keeps_look x y ds g h l t = record {
  tell = subst (λ z. Tell z ds) (sym (same ∙ accounts-looked (vec_items x.given) (vec_items x.taken) (vec_items x.records) ds)) t;
  none_given = λ u e. ap (λ z. bytes_of u (vec_items z)) l.given ∙ g u e;
  none_taken = λ u e. ap (λ z. bytes_of u (vec_items z)) l.taken ∙ h u e;
}
  where
    same : accounts y ≡ accounts_of (vec_items x.given) (vec_items x.taken) (map (λ r. noted_by (view_of (by_tag r.tag ds)) r) (vec_items x.records))
    same = ap (λ z. accounts_of (vec_items y.given) (vec_items y.taken) z) l.records ∙ ap (λ z. accounts_of (vec_items z) (vec_items y.taken) (map (λ r. noted_by (view_of (by_tag r.tag ds)) r) (vec_items x.records))) l.given ∙
        ap (λ z. accounts_of (vec_items x.given) (vec_items z) (map (λ r. noted_by (view_of (by_tag r.tag ds)) r) (vec_items x.records))) l.taken
