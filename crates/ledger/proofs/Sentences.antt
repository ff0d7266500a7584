-- What is written down of a run of the model satisfies the sentence.
use Rattle.std.proofs.Common.{◌≡◌, ℕ, Bool, true, false, ◌&&◌, eqb, ◌⊎◌, List, [], ◌∷◌, ◌++◌, length, sym, refl, ap, ◌∙◌, subst, inl, inr, ⊎_elim, append_assoc, arith, length-append}
use mathlib.Core.List.Memᴰ
use mathlib.Core.List.{Memᴰ}
use Rattle.std.proofs.lemmas.Bool.Decides.{nat_tests}
use Rattle.std.proofs.lemmas.Bool.{and_parts, not-true}
use Rattle.hold.specs.Packet.{Settings}
use Rattle.hold.specs.Conn.{Conn, Last, NotSaid, At, ends}
use Rattle.hold.specs.World.{Who, L, R, World, Ev, end, other, world, is_in}
use Rattle.hold.specs.Promise.{Holds, tags, apart}
use Rattle.hold.proofs.Bricks.{false_true}
use Rattle.hold.proofs.Table.{mem_tags}
use Rattle.hold.proofs.Inv.{inv, apart-at}
use Rattle.hold.proofs.Parts.{holds, told_exactly, unique}
use Rattle.ledger.specs.Sentence.{Account, Delivered, Paired, Whole, Sentence}
use Rattle.ledger.specs.Tells.{is_said, Tells, Tell}

-- the connection that an account of the list tells of
abbrev Of : List Conn → Account → Type 0
Of cs a = (c : Conn) × Memᴰ c cs × Tells a c

pub conn_of_lem : (bs : List Account) (cs : List Conn) → Tell bs cs → (a : Account) → Memᴰ a bs → Of cs a
conn_of_lem [] cs r a m = absurd (Memᴰ.not-nil m)
conn_of_lem (b ∷ bs) [] r a m = absurd r
conn_of_lem (b ∷ bs) (c ∷ cs) (t, r) a m = ⊎_elim (λ e. (c, Memᴰ.head refl, subst (λ z. Tells z c) (sym e) t)) (λ n. up (conn_of_lem bs cs r a n)) (Memᴰ.cases_cons m)
  where
    up : Of cs a → Of (c ∷ cs) a
    up (d, k, s) = (d, Memᴰ.tail k, s)

abbrev By : List Account → Conn → Type 0
By bs c = (a : Account) × Memᴰ a bs × Tells a c

pub account_of : (bs : List Account) (cs : List Conn) → Tell bs cs → (c : Conn) → Memᴰ c cs → By bs c
account_of bs [] r c m = absurd (Memᴰ.not-nil m)
account_of [] (d ∷ cs) r c m = absurd r
account_of (b ∷ bs) (d ∷ cs) (t, r) c m = ⊎_elim (λ e. (b, Memᴰ.head refl, subst (Tells b) (sym e) t)) (λ n. up (account_of bs cs r c n)) (Memᴰ.cases_cons m)
  where
    up : By bs c → By (b ∷ bs) c
    up (a, k, s) = (a, Memᴰ.tail k, s)

-- a tag of an account is a tag of a connection
told_tag : (bs : List Account) (cs : List Conn) → Tell bs cs → (a : Account) → Memᴰ a bs → is_in a.tag (tags cs) ≡ true
told_tag bs cs r a m = go (conn_of_lem bs cs r a m)
  where
    go : Of cs a → is_in a.tag (tags cs) ≡ true
    go (c, n, t) = ap (λ z. is_in z (tags cs)) t.tag ∙ mem_tags cs c n

-- no two accounts have the same tag
pub one-account : (bs : List Account) (cs : List Conn) → Tell bs cs → apart (tags cs) ≡ true → (a b : Account) → Memᴰ a bs → Memᴰ b bs → a.tag ≡ b.tag → a ≡ b
unfolding apart tags
one-account [] cs r h a b m n e = absurd (Memᴰ.not-nil m)
one-account (x ∷ bs) [] r h a b m n e = absurd r
one-account (x ∷ bs) (c ∷ cs) (t, r) h a b m n e = go (Memᴰ.cases_cons m) (Memᴰ.cases_cons n) (λ i k. one-account bs cs r (and_parts _ _ h).1 a b i k e)
  where
    new : is_in c.mine (tags cs) ≡ false
    new = not-true _ (and_parts _ _ h).0

    clash : (y z : Account) → y ≡ x → Memᴰ z bs → y.tag ≡ z.tag → a ≡ b
    clash y z i k q = false_true _ new (ap (λ v. is_in v (tags cs)) (sym t.tag ∙ ap (λ v. v.tag) (sym i) ∙ q) ∙ told_tag bs cs r z k)

    go : (a ≡ x) ⊎ Memᴰ a bs → (b ≡ x) ⊎ Memᴰ b bs → (Memᴰ a bs → Memᴰ b bs → a ≡ b) → a ≡ b
    go (inl i) (inl k) s = i ∙ sym k
    go (inl i) (inr k) s = clash a b i k e
    go (inr i) (inl k) s = clash b a k i (sym e)
    go (inr i) (inr k) s = s i k

-- told the end, from what is known of the end that was heard
told_when : (e : Last) (ended closed : Bool) (n g : ℕ) → ended ≡ ends e n → ((q : ℕ) → e ≡ At q → (q ≡ g) × (closed ≡ true)) → ended ≡ (eqb n g && (closed && is_said e))
told_when NotSaid ended closed n g k f = k ∙ grind (arith, nat_tests)
told_when (At q) ended closed n g k f = let (a, b) = f q refl in k ∙ ap (λ z. eqb z n) a ∙ grind (arith, nat_tests)

said_at : (e : Last) → is_said e ≡ true → (q : ℕ) × (e ≡ At q)
said_at NotSaid h = false_true _ refl h
said_at (At q) h = (q, refl)

delivered : (w : World) (o : Who) (a b : Account) (c : Conn) → c.ended ≡ ends c.end (length c.got) → (h : Holds w o c) → Tells a c → Tells b h.partner → Delivered a b
delivered w o a b c k h s t = record {
  rest = s.rest ++ h.rest;
  first_part = sym (append_assoc a.taken s.rest h.rest) ∙ ap (λ z. z ++ h.rest) s.taken ∙ h.first_part ∙ sym t.given;
  in_order = (omega (arith, length-append a.taken s.rest, ap length s.taken, s.arrived), omega (arith, s.arrived, length-append c.got h.rest, ap length h.first_part, ap length t.given));
  told = s.told ∙ told_when c.end c.ended h.partner.closed (length c.got) (length h.partner.given) k h.end_true ∙ cc;
  heard = λ z. let (q, e) = said_at c.end (sym s.heard ∙ z) in t.closed ∙ (h.end_true q e).1;
  came = omega (arith, h.came, s.upto, t.arrived);
  all_came = λ z. t.told ∙ h.all_came (sym s.all ∙ z);
}

module _ (cfg : Settings) (es : List Ev) (o : Who) (ls rs : List Account) (tl : Tell ls (end o (world cfg es)).conns) (tr : Tell rs (end (other o) (world cfg es)).conns) where
  apart_in : (p : Who) → apart (tags (end p (world cfg es)).conns) ≡ true
  apart_in p = apart-at _ (inv cfg es).tagged p

  paired : (a : Account) (c : Conn) → Memᴰ a ls → a.opened ≡ true → Memᴰ c (end o (world cfg es)).conns → Tells a c → (h : Holds (world cfg es) o c) → By rs h.partner → Paired ls rs a
  paired a c m k n s h (b, i, t) = record {
    partner = b;
    there = i;
    one = (s.peer ∙ h.one.0 ∙ sym t.tag, t.peer ∙ h.one.1 ∙ sym s.tag);
    only = λ e j q. one-account rs _ tr (apart_in (other o)) e b j i (q ∙ s.peer ∙ h.one.0 ∙ sym t.tag);
    alone = λ e j p q. same e j p q (conn_of_lem ls _ tl e j);
    delivered = delivered (world cfg es) o a b c (told_exactly cfg es o c n) h s t;
  }
    where
      same : (e : Account) → Memᴰ e ls → e.opened ≡ true → e.peer ≡ a.peer → Of (end o (world cfg es)).conns e → e ≡ a
      same e j p q (x, y, u) = one-account ls _ tl (apart_in o) e a j m
          (u.tag ∙ ap (λ z. z.mine) (unique cfg es o x c y n (sym u.opened ∙ p) (sym s.opened ∙ k) (sym u.peer ∙ q ∙ s.peer)) ∙ sym s.tag)

  pub whole : Whole ls rs
  whole a m k = ∣ go (conn_of_lem ls _ tl a m) ∣₁
    where
      go : Of (end o (world cfg es)).conns a → Paired ls rs a
      go (c, n, s) = let h = holds cfg es o c n (sym s.opened ∙ k) in paired a c m k n s h (account_of rs _ tr h.partner h.there)

pub sentence : (cfg : Settings) (es : List Ev) (ls rs : List Account) → Tell ls (world cfg es).left.conns → Tell rs (world cfg es).right.conns → Sentence ls rs
sentence cfg es ls rs l r = (whole cfg es L ls rs l r, whole cfg es R rs ls r l)
