-- Each edit of a connection grows it, and keeps what is true of it. Assumes nothing.
use Rattle.std.proofs.Common.{◌≡◌, ℕ, ◌≤◌, true, List, ◌++◌, length, sym, refl, ◌∙◌, subst, inl, inr, ⊎_elim, arith, length-append}
use mathlib.Core.List.{Memᴰ}
use Rattle.std.proofs.lemmas.Bool.Decides.{nat_tests}
use Rattle.std.proofs.lemmas.Bool.{cond_both, cond-true, or_left}
use Rattle.hold.specs.Packet.{Settings, Packet, Kind, Ask, Yes, Text}
use Rattle.hold.specs.Conn.{Conn, open_with, gives, heard}
use Rattle.hold.specs.World.{is_open, is_asked}
use Rattle.hold.specs.Promise.{tags, apart}
use Rattle.hold.specs.Rules.{Edit, Front, Told, advance_by, closed-now, dropped, given-more, gone-now, handed, heard-by, is_half, opened-by, taken_more, yielded}
use Rattle.hold.proofs.Bricks.{false_true}
use Rattle.hold.proofs.Table.{one_tag}
use Rattle.hold.proofs.Truth.{Grows, front_same, TrueOf, Has, Facts, FactsOf, gave_of, Tied, fresh_facts, LocalOf, TiedOf, Tie, Caller, Linked}
use Rattle.hold.proofs.Hear.{hears_facts, handed_facts, dropped_facts, handed_local, heard_local}

longer : (xs ys : List ℕ) → length xs ≤ length (xs ++ ys)
longer xs ys = omega (arith, length-append xs ys)

pub edit_grows : (cfg : Settings) (ps : List Packet) (c d : Conn) → Edit cfg ps c d → LocalOf cfg c → Grows c d
edit_grows cfg ps c d (given-more bs) l = let g : Front c.given (gives bs c).given = cond_both c.closed c.given (c.given ++ bs) (Front c.given) (λ _. front_same c.given) (λ _. (bs, refl)) in search (cond-true, arith)
edit_grows cfg ps c d closed-now l = search (front_same, arith)
edit_grows cfg ps c d (taken_more k) l = search (front_same, arith, nat_tests)
edit_grows cfg ps c d gone-now l = search (front_same, arith)
edit_grows cfg ps c d (opened-by p m k t a) l = search (front_same, arith)
edit_grows cfg ps c d (heard-by n p m k t f a) l = search (front_same, longer, or_left, arith)
edit_grows cfg ps c d (handed n o) l = search (front_same, longer, or_left, arith)
edit_grows cfg ps c d (dropped ks g o) l = search (front_same, arith)
edit_grows cfg ps c d (yielded p m k a b) l = search (front_same, arith)

pub edit_local : (cfg : Settings) (ps : List Packet) (c d : Conn) → Edit cfg ps c d → LocalOf cfg c → LocalOf cfg d
edit_local cfg ps c d (given-more bs) l = l
edit_local cfg ps c d closed-now l = l
edit_local cfg ps c d (taken_more k) l = record { taken_got = grind (arith, nat_tests); got_room = grind (arith, nat_tests); kept_room = λ x m. let h = l.kept_room x m in grind (arith, nat_tests) }
edit_local cfg ps c d gone-now l = l
edit_local cfg ps c d (opened-by p m k t a) l = l
edit_local cfg ps c d (heard-by n p m k t f a) l = handed_local cfg n (heard cfg p (open_with p.from c)) (heard_local cfg p (open_with p.from c) l)
edit_local cfg ps c d (handed n o) l = handed_local cfg n c l
edit_local cfg ps c d (dropped ks g o) l = record { taken_got = l.taken_got; got_room = l.got_room; kept_room = λ x m. l.kept_room x (g x m) }
edit_local cfg ps c d (yielded p m k a b) l = l

-- two connections with these packets coming from the other's connections ds
module _ (cfg : Settings) (ps : List Packet) (ds : List Conn) (are : (p : Packet) → Memᴰ p ps → TrueOf cfg p.kind p ds) (a : apart (tags ds) ≡ true) where
  sent_as : (k : Kind) (p : Packet) → Memᴰ p ps → p.kind ≡ k → TrueOf cfg k p ds
  sent_as k p m e = subst (λ z. TrueOf cfg z p ds) e (are p m)

  -- a text that is heard by one that it is for comes from its partner
  heard_tie : (n : ℕ) (c : Conn) (p : Packet) → c.mine ≡ p.to → c.theirs ≡ p.from → Tie cfg c ds → TrueOf cfg Text p ds → TiedOf cfg (advance_by n (heard cfg p (open_with p.from c))) ds
  heard_tie j c p t f (inl fresh) (d, n, (h, k, s), told) = record {
    partner = d;
    there = n;
    one = (sym h, k ∙ sym t);
    partner_settled = s;
    facts = hears_facts cfg j p (open_with p.from c) d (fresh_facts cfg c d fresh) told;
  }
  heard_tie j c p t f (inr (_, inr tie)) (d, n, (h, k, s), told) = record {
    partner = tie.partner;
    there = tie.there;
    one = (sym f ∙ tie.one.0, tie.one.1);
    partner_settled = tie.partner_settled;
    facts = hears_facts cfg j p (open_with p.from c) tie.partner tie.facts (subst (Told cfg p) (one_tag ds d tie.partner a n tie.there (h ∙ sym f ∙ tie.one.0)) told);
  }
  heard_tie j c p t f (inr (_, inl w)) (d, n, (h, k, s), told) = record {
    partner = d;
    there = n;
    one = (sym h, k ∙ sym t);
    partner_settled = s;
    facts = hears_facts cfg j p (open_with p.from c) d (subst (FactsOf cfg c) (one_tag ds w.caller d a w.there n (w.calls ∙ f ∙ sym h)) w.facts) told;
  }

  opened_tie : (c : Conn) (p : Packet) → c.mine ≡ p.to → is_asked c.phase ≡ true → Tie cfg c ds → TrueOf cfg Yes p ds → TiedOf cfg (open_with p.from c) ds
  opened_tie c p t b (inl fresh) (e, n, (h, f, s)) = record { partner = e; there = n; one = (sym h, f ∙ sym t); partner_settled = s; facts = fresh_facts cfg c e fresh }
  opened_tie c p t b (inr (u, _)) _ = false_true _ u b

  tied_with : {mine theirs : ℕ} {h h' : Has} (t : Tied cfg mine theirs h ds) → Facts cfg h' (gave_of t.partner) → Tied cfg mine theirs h' ds
  tied_with t f = record { partner = t.partner; there = t.there; one = t.one; partner_settled = t.partner_settled; facts = f }

  edit_tie : (c d : Conn) → Edit cfg ps c d → Tie cfg c ds → Tie cfg d ds
  edit_tie c d (given-more bs) l = l
  edit_tie c d closed-now l = l
  edit_tie c d (taken_more k) l = l
  edit_tie c d gone-now l = ⊎_elim inl (λ (_, t). inr (refl, t)) l
  edit_tie c d (opened-by p m k t b) l = inr (refl, inr (opened_tie c p t b l (sent_as Yes p m k)))
  edit_tie c d (heard-by n p m k t f b) l = inr (refl, inr (heard_tie n c p t f l (sent_as Text p m k)))
  edit_tie c d (handed n o) l = ⊎_elim (λ f. false_true _ f.not_opened o) (λ (s, t). inr (s, ⊎_elim (λ w. false_true _ w.not_opened o) (λ t. inr (tied_with t (handed_facts cfg n c t.partner t.facts))) t)) l
  edit_tie c d (dropped ks g o) l = ⊎_elim (λ f. false_true _ f.not_opened o) (λ (s, t). inr (s, ⊎_elim (λ w. false_true _ w.not_opened o) (λ t. inr (tied_with t (dropped_facts cfg ks c t.partner g t.facts))) t)) l
  edit_tie c d (yielded p m k a b) l = ⊎_elim inl (λ (s, _). false_true _ s a) l

  edit_open : (c d : Conn) → Edit cfg ps c d → (is_open c.phase ≡ true → c.opened ≡ true) → is_open d.phase ≡ true → d.opened ≡ true
  edit_open c d (given-more bs) l = l
  edit_open c d closed-now l = l
  edit_open c d (taken_more k) l = l
  edit_open c d gone-now l = λ h. false_true _ refl h
  edit_open c d (opened-by p m k t b) l = λ _. refl
  edit_open c d (heard-by n p m k t f b) l = λ _. refl
  edit_open c d (handed n o) l = l
  edit_open c d (dropped ks g o) l = l
  edit_open c d (yielded p m k a b) l = λ h. false_true _ refl h

  edit_caller : (c d : Conn) → Edit cfg ps c d → Caller (is_half c.phase) c.theirs ds → Caller (is_half d.phase) d.theirs ds
  edit_caller c d (given-more bs) l = l
  edit_caller c d closed-now l = l
  edit_caller c d (taken_more k) l = l
  edit_caller c d gone-now l = λ h. false_true _ refl h
  edit_caller c d (opened-by p m k t b) l = λ h. false_true _ refl h
  edit_caller c d (heard-by n p m k t f b) l = λ h. false_true _ refl h
  edit_caller c d (handed n o) l = l
  edit_caller c d (dropped ks g o) l = l
  edit_caller c d (yielded p m k a b) l = λ _. let (e, n, q, h, _) = sent_as Ask p m k in (e, n, q, h)

  pub edit_linked : (c d : Conn) → Edit cfg ps c d → Linked cfg c ds → Linked cfg d ds
  edit_linked c d e l = record { local = edit_local cfg ps c d e l.local; open_opened = edit_open c d e l.open_opened; caller = edit_caller c d e l.caller; tie = edit_tie c d e l.tie }
