-- What is true of a connection by itself, of a packet that was sent, and of two connections that are one; and that it stays true as the other grows. Assumes nothing.
use Rattle.std.proofs.Common.{◌≡◌, ℕ, ◌+◌, ◌<◌, ◌≤◌, Bool, true, false, eqb, ◌⊎◌, List, [], ◌++◌, length, sym, refl, ap, ◌∙◌, subst, inl, inr, ⊎_elim, append_assoc, append-nil, arith, length-append}
use mathlib.Core.List.Memᴰ
use mathlib.Core.List.{Memᴰ}
use Rattle.hold.specs.Packet.{Settings, Packet, Piece, Kind, Ask, Yes, Text, Bye}
use Rattle.hold.specs.Conn.{Conn, Last, NotSaid}
use Rattle.hold.specs.World.{is_open, is_asked}
use Rattle.hold.specs.Rules.{AtPlace, Front, is_half, Told}
use Rattle.hold.proofs.Bricks.{stands_more}
use Rattle.hold.proofs.Table.{Into}

-- one that asked is half only if it gave way to a smaller tag
abbrev pub Asker : Conn → Type 0
Asker c = is_half c.phase ≡ true → c.theirs < c.mine

-- how a connection may change as time goes on
pub record Grows (c d : Conn) : Type 0 where
  pub mine : d.mine ≡ c.mine
  pub theirs : is_asked c.phase ≡ false → d.theirs ≡ c.theirs
  pub settled : is_asked c.phase ≡ false → is_asked d.phase ≡ false
  pub half : Asker c → Asker d
  pub given : Front c.given d.given
  pub closed : c.closed ≡ true → (d.closed ≡ true) × (d.given ≡ c.given)
  pub got : length c.got ≤ length d.got
  pub taken : c.taken ≤ d.taken
  pub ended : c.ended ≡ true → d.ended ≡ true

pub front_same : (xs : List ℕ) → Front xs xs
front_same xs = ([], append-nil xs)

pub grows_same : (c : Conn) → Grows c c
grows_same c = search (front_same, arith)

pub stands_front : (i b : ℕ) (xs ys : List ℕ) → Front xs ys → AtPlace i b xs → AtPlace i b ys
stands_front i b xs ys (r, e) s = rw e at (stands_more i b xs r s)

pub front-front : (xs ys zs : List ℕ) → Front xs ys → Front ys zs → Front xs zs
front-front xs ys zs (r, e) (s, f) = (r ++ s, sym (append_assoc xs r s) ∙ ap (λ a. a ++ s) e ∙ f)

pub front_length : (xs ys : List ℕ) → Front xs ys → length xs ≤ length ys
front_length xs ys (r, e) = omega (arith, length-append xs r, ap length e)

pub told_grows : (cfg : Settings) (p : Packet) (c d : Conn) → Grows c d → Told cfg p c → Told cfg p d
told_grows cfg p c d g t = record {
  bytes = λ i b s. stands_front _ b _ _ g.given (t.bytes i b s);
  last = λ h. ((g.closed (t.last h).0).0, (t.last h).1 ∙ ap length (sym (g.closed (t.last h).0).1));
  upto = omega (arith, t.upto, g.got);
  all = λ h. g.ended (t.all h);
  edge = omega (arith, t.edge, g.taken);
}

abbrev pub Sender : Packet → Conn → Type 0
Sender p d = (d.mine ≡ p.from) × (d.theirs ≡ p.to) × (is_asked d.phase ≡ false)

-- what is true of a packet that was sent, by its kind, for the connections of its sender
abbrev pub TrueOf : Settings → Kind → Packet → List Conn → Type 0
TrueOf cfg Ask p ds = (d : Conn) × Memᴰ d ds × (d.mine ≡ p.from) × Asker d × Front p.text d.given
TrueOf cfg Yes p ds = (d : Conn) × Memᴰ d ds × Sender p d
TrueOf cfg Text p ds = (d : Conn) × Memᴰ d ds × Sender p d × Told cfg p d
TrueOf cfg Bye p ds = Unit {0}

pub sender_grows : (p : Packet) (c d : Conn) → Grows c d → Sender p c → Sender p d
sender_grows p c d g (a, b, s) = (g.mine ∙ a, g.theirs s ∙ b, g.settled s)

pub true_grows : (cfg : Settings) (k : Kind) (p : Packet) (cs ds : List Conn) → Into Grows cs ds → TrueOf cfg k p cs → TrueOf cfg k p ds
true_grows cfg Ask p cs ds into (c, m, a, h, f) = let (d, n, g) = into c m in (d, n, g.mine ∙ a, g.half h, front-front _ _ _ f g.given)
true_grows cfg Yes p cs ds into (c, m, s) = let (d, n, g) = into c m in (d, n, sender_grows p c d g s)
true_grows cfg Text p cs ds into (c, m, s, t) = let (d, n, g) = into c m in (d, n, sender_grows p c d g s, told_grows cfg p c d g t)
true_grows cfg Bye p cs ds into t = tt

-- what a connection has of the other, and what the other gave. Facts speak of these bundles, so that they stay, by computation, at an edit that leaves these fields alone
pub record Has : Type 0 where
  pub got : List ℕ
  pub kept : List Piece
  pub end : Last
  pub ended : Bool
  pub upto : ℕ
  pub all : Bool
  pub sees : ℕ

pub record Gave : Type 0 where
  pub given : List ℕ
  pub closed : Bool
  pub got : List ℕ
  pub ended : Bool
  pub taken : ℕ

abbrev pub has_of : Conn → Has
has_of c = record { got = c.got; kept = c.kept; end = c.end; ended = c.ended; upto = c.upto; all = c.all; sees = c.sees }

abbrev pub gave_of : Conn → Gave
gave_of d = record { given = d.given; closed = d.closed; got = d.got; ended = d.ended; taken = d.taken }

abbrev pub nothing : Has
nothing = record { got = []; kept = []; end = NotSaid; ended = false; upto = 0; all = false; sees = 0 }

pub record Facts (cfg : Settings) (h : Has) (g : Gave) : Type 0 where
  pub kept_true : (x : Piece) → Memᴰ x h.kept → AtPlace x.place x.byte g.given
  pub front : Front h.got g.given
  pub end_true : (q : ℕ) → h.end ≡ Last.At q → (q ≡ length g.given) × (g.closed ≡ true)
  pub end_heard : h.ended ≡ true → (q : ℕ) × (h.end ≡ Last.At q)
  pub told : (q : ℕ) → h.end ≡ Last.At q → h.ended ≡ eqb q (length h.got)
  pub came : h.upto ≤ length g.got
  pub all_came : h.all ≡ true → g.ended ≡ true
  pub edge_true : h.sees ≤ g.taken + cfg.room

abbrev pub FactsOf : Settings → Conn → Conn → Type 0
FactsOf cfg c d = Facts cfg (has_of c) (gave_of d)

pub facts_grow : (cfg : Settings) (h : Has) (d e : Conn) → Grows d e → Facts cfg h (gave_of d) → Facts cfg h (gave_of e)
facts_grow cfg h d e g f = record {
  kept_true = λ x m. stands_front _ _ _ _ g.given (f.kept_true x m);
  front = front-front _ _ _ f.front g.given;
  end_true = λ q k. let (a, b) = f.end_true q k in (a ∙ ap length (sym (g.closed b).1), (g.closed b).0);
  end_heard = f.end_heard;
  told = f.told;
  came = omega (arith, f.came, g.got);
  all_came = λ k. g.ended (f.all_came k);
  edge_true = omega (arith, f.edge_true, g.taken);
}

-- nothing came yet
pub record Fresh (opened : Bool) (h : Has) : Type 0 where
  pub not_opened : opened ≡ false
  pub is_nothing : h ≡ nothing

abbrev pub FreshOf : Conn → Type 0
FreshOf c = Fresh c.opened (has_of c)

nothing_facts : (cfg : Settings) (g : Gave) → Facts cfg nothing g
nothing_facts cfg g = record {
  kept_true = λ x m. absurd (Memᴰ.not-nil m);
  front = (g.given, refl);
  end_true = λ q h. grind arith;
  end_heard = λ h. grind arith;
  told = λ q h. grind arith;
  came = omega arith;
  all_came = λ h. grind arith;
  edge_true = omega arith;
}

pub fresh_facts : (cfg : Settings) (c d : Conn) → FreshOf c → FactsOf cfg c d
fresh_facts cfg c d f = subst (λ h. Facts cfg h (gave_of d)) (sym f.is_nothing) (nothing_facts cfg (gave_of d))

-- by itself
pub record Local (cfg : Settings) (got : List ℕ) (taken : ℕ) (kept : List Piece) : Type 0 where
  pub taken_got : taken ≤ length got
  pub got_room : length got ≤ taken + cfg.room
  pub kept_room : (x : Piece) → Memᴰ x kept → (length got ≤ x.place) × (x.place < taken + cfg.room)

abbrev pub LocalOf : Settings → Conn → Type 0
LocalOf cfg c = Local cfg c.got c.taken c.kept

-- one with a connection of the other end
pub record Tied (cfg : Settings) (mine theirs : ℕ) (h : Has) (ds : List Conn) : Type 0 where
  pub partner : Conn
  pub there : Memᴰ partner ds
  pub one : (theirs ≡ partner.mine) × (partner.theirs ≡ mine)
  pub partner_settled : is_asked partner.phase ≡ false
  pub facts : Facts cfg h (gave_of partner)

abbrev pub TiedOf : Settings → Conn → List Conn → Type 0
TiedOf cfg c ds = Tied cfg c.mine c.theirs (has_of c) ds

-- not open yet, and what it has came with the ask of a connection of the other end
pub record Worded (cfg : Settings) (opened : Bool) (theirs : ℕ) (h : Has) (ds : List Conn) : Type 0 where
  pub not_opened : opened ≡ false
  pub caller : Conn
  pub there : Memᴰ caller ds
  pub calls : caller.mine ≡ theirs
  pub facts : Facts cfg h (gave_of caller)

abbrev pub WordedOf : Settings → Conn → List Conn → Type 0
WordedOf cfg c ds = Worded cfg c.opened c.theirs (has_of c) ds

abbrev pub Tie : Settings → Conn → List Conn → Type 0
Tie cfg c ds = FreshOf c ⊎ ((is_asked c.phase ≡ false) × (WordedOf cfg c ds ⊎ TiedOf cfg c ds))

-- a half connection was called by one that asked
abbrev pub Caller : Bool → ℕ → List Conn → Type 0
Caller half theirs ds = half ≡ true → (d : Conn) × Memᴰ d ds × (d.mine ≡ theirs) × Asker d

pub record Linked (cfg : Settings) (c : Conn) (ds : List Conn) : Type 0 where
  pub local : LocalOf cfg c
  pub open_opened : is_open c.phase ≡ true → c.opened ≡ true
  pub caller : Caller (is_half c.phase) c.theirs ds
  pub tie : Tie cfg c ds

pub tied_grows : (cfg : Settings) (c : Conn) (ds es : List Conn) → Into Grows ds es → TiedOf cfg c ds → TiedOf cfg c es
tied_grows cfg c ds es into t = go (into t.partner t.there)
  where
    go : (e : Conn) × Memᴰ e es × Grows t.partner e → TiedOf cfg c es
    go (e, m, g) = record {
      partner = e;
      there = m;
      one = (t.one.0 ∙ sym g.mine, g.theirs t.partner_settled ∙ t.one.1);
      partner_settled = g.settled t.partner_settled;
      facts = facts_grow cfg (has_of c) t.partner e g t.facts;
    }

pub worded_grows : (cfg : Settings) (c : Conn) (ds es : List Conn) → Into Grows ds es → WordedOf cfg c ds → WordedOf cfg c es
worded_grows cfg c ds es into t = go (into t.caller t.there)
  where
    go : (e : Conn) × Memᴰ e es × Grows t.caller e → WordedOf cfg c es
    go (e, m, g) = record { not_opened = t.not_opened; caller = e; there = m; calls = g.mine ∙ t.calls; facts = facts_grow cfg (has_of c) t.caller e g t.facts }

pub linked_grows : (cfg : Settings) (c : Conn) (ds es : List Conn) → Into Grows ds es → Linked cfg c ds → Linked cfg c es
linked_grows cfg c ds es into l = record {
  local = l.local;
  open_opened = l.open_opened;
  caller = λ h. let (d, m, a, b) = l.caller h in let (e, n, g) = into d m in (e, n, g.mine ∙ a, g.half b);
  tie = ⊎_elim inl (λ (s, t). inr (s, ⊎_elim (λ w. inl (worded_grows cfg c ds es into w)) (λ w. inr (tied_grows cfg c ds es into w)) t)) l.tie;
}
