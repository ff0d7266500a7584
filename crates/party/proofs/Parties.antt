-- A call that an end did, written down, is a step of the model's end with its book.
use Rattle.std.proofs.Common.{◌≡◌, ℕ, ◌≤◌, min, Bool, false, ◌&&◌, ◌||◌, eqb, leb, List, [], ◌∷◌, ◌++◌, length, take, drop, Some, None, vec_items, Option, sym, refl, ap, ◌∙◌, subst, ⊎_elim, arith}
use Rattle.std.proofs.lemmas.List.{length-drop, length-take, take_all, take_at}
use Rattle.std.proofs.lemmas.Bool.{and_from, and_parts, cases_Bool, cases_lt, cond_both, cond-false, le-leb, leb-true}
use Rattle.std.proofs.lemmas.Bool.Decides.{nat_tests}
use Rattle.hold.specs.Conn.{Conn, Asked, new}
use Rattle.hold.specs.Packet as m
use Rattle.hold.specs.World.{L, R, Breaks, Closes, End, Ev, Forgets, Found, Gives, NotThere, Opens, Sends, There, Takes, Who, World, added, by_tag, end, is_in, on_kind, put, start, step, world}
use Rattle.hold.proofs.Bricks.{false_true}
use Rattle.hold.proofs.Puts.{end-put}
use Rattle.packet.specs.Packets.{packet, sent}
use Rattle.packet.specs.declared.packet.Packet.{Packet}
use Rattle.connection.specs.Stand.{Took}
use Rattle.endpoint.specs.Calls as call
use Rattle.endpoint.specs.Saying.{Says, upto_of}
use Rattle.endpoint.specs.Stands.{Stands, cfg}
use Rattle.endpoint.specs.Steps.{After, Steps}
use Rattle.endpoint.specs.Steps as E
use Rattle.endpoint.specs.declared.Endpoint.{Endpoint}
use Rattle.ledger.specs.Books.{Keeps, Looked, Met, accounts_of, bytes_of, entries, fresh, view_of}
use Rattle.ledger.specs.Tells.{Tell}
use Rattle.ledger.specs.Ready.{SameBook, Ready}
use Rattle.ledger.specs.Room.{RoomFor}
use Rattle.ledger.specs.declared.book.Book.{Book}
use Rattle.ledger.specs.declared.record.View.{View}
use Rattle.ledger.proofs.Accounts.{keeps_as}
use Rattle.ledger.proofs.Kept.{keeps_close, keeps_gone, keeps_gave, keeps_took, keeps_opened, keeps_heard}
use Rattle.ledger.proofs.Steps.{sound}
use Rattle.party.specs.Looks.{SeenIn}
use Rattle.party.specs.Plays.{Plays, Acted, Acts, Draws, Moves, says_now}
use Rattle.party.specs.declared.Party.{Party}

pub cut : (k n : ℕ) (bs : List ℕ) → k ≡ min n (length bs) → take k bs ≡ take n bs
cut k n bs e = ⊎_elim (λ h. ap (λ z. take z bs) (omega (arith, h, e))) (λ h. take_all k bs (omega (arith, h, e)) ∙ sym (take_all n bs (omega (arith, h)))) (cases_lt n (length bs))

some_none : {v : View} → Some v ≡ None → ⊥
some_none e = let z : ◌≡◌ {A = ℕ} 0 1 = cc in omega arith

pub keeps_same : (x y : Book) (cs : List Conn) → SameBook x y → Keeps x cs → Keeps y cs
keeps_same x y cs s k = keeps_as x y cs s.records s.given s.taken k

-- what goes out while nothing else happens
pub says_acts : (p : Party) (out : List m.Packet) (next : Who → World → World) → ((o : Who) (w : World) → Stands p.end (end o w) → After p.end out o w (next o w)) → ((o : Who) (w : World) → (end o (next o w)).conns ≡ (end o w).conns) → Moves p p out next
says_acts p out next f same = record {
  settings = refl;
  acted = λ o es h. let a = f o (world (cfg p.end) es) h.stands in
      record { plays = record { stands = a.stands; keeps = subst (Keeps p.book) (sym (same o (world (cfg p.end) es))) h.keeps }; sends = a.sends; far = a.far; back = a.back };
}

-- p became q: its end became x, what was done was written into the book b, and then a look was taken
module _ (p q : Party) (x : Endpoint) (b : Book) (same : q.end ≡ x) (look : (e : End) → Stands x e → Looked e.conns b q.book) where
  acted : (out : List m.Packet) (o : Who) (w v : World) → After x out o w v → (Looked (end o v).conns b q.book → Keeps q.book (end o v).conns) → Acted q out o w v
  acted out o w v a k = record { plays = record { stands = subst (λ z. Stands z (end o v)) (sym same) a.stands; keeps = k (look _ a.stands) }; sends = a.sends; far = a.far; back = a.back }

  agreed : x.settings ≡ p.end.settings → q.end.settings ≡ p.end.settings
  agreed e = ap (λ z. z.settings) same ∙ e

  pub closed_acts : (t : ℕ) → Steps p.end x [] (λ o. Closes o t) → b ≡ p.book → Acts p q [] (λ o. Closes o t)
  closed_acts t s eb = record {
    settings = agreed s.settings;
    acted = λ o es h. acted [] o (world (cfg p.end) es) _ (s.world o (world (cfg p.end) es) h.stands) (λ l. keeps_close o (world (cfg p.end) es) (sound (cfg p.end) es o) b (subst (λ z. Keeps z (end o (world (cfg p.end) es)).conns) (sym eb) h.keeps) t q.book l);
  }

  pub broken_acts : (t : ℕ) (out : List m.Packet) → Steps p.end x out (λ o. Breaks o t) → b ≡ p.book → Acts p q out (λ o. Breaks o t)
  broken_acts t out s eb = record {
    settings = agreed s.settings;
    acted = λ o es h. acted out o (world (cfg p.end) es) _ (s.world o (world (cfg p.end) es) h.stands) (λ l. keeps_gone o (world (cfg p.end) es) (sound (cfg p.end) es o) b (subst (λ z. Keeps z (end o (world (cfg p.end) es)).conns) (sym eb) h.keeps) t _ q.book l);
  }

  pub forgot_acts : (t : ℕ) → Steps p.end x [] (λ o. Forgets o t) → b ≡ p.book → Acts p q [] (λ o. Forgets o t)
  forgot_acts t s eb = record {
    settings = agreed s.settings;
    acted = λ o es h. acted [] o (world (cfg p.end) es) _ (s.world o (world (cfg p.end) es) h.stands) (λ l. keeps_gone o (world (cfg p.end) es) (sound (cfg p.end) es o) b (subst (λ z. Keeps z (end o (world (cfg p.end) es)).conns) (sym eb) h.keeps) t [] q.book l);
  }

  -- with memory found first: the book was b₀ then
  module _ (b₀ : Book) (found : SameBook p.book b₀) where
    kept : (cs : List Conn) → Keeps p.book cs → Keeps b₀ cs
    kept cs k = keeps_same p.book b₀ cs found k

    pub opened_acts : (t : ℕ) (r : Packet) → call.open_number p.end t ≡ 0 → call.OpenedBy p.end x t r → vec_items b.records ≡ vec_items b₀.records ++ fresh t ∷ [] → b.given ≡ b₀.given → b.taken ≡ b₀.taken →
        Draws p q t (packet r ∷ []) (λ o. step (cfg p.end) (Opens o t))
    opened_acts t r n op er eg et = record { settings = agreed op.settings; acted = λ o es h f. acted (packet r ∷ []) o (world (cfg p.end) es) _ (op.world o (world (cfg p.end) es) h.stands f) (keeps o es h f) }
      where
        some_tag : eqb t 0 ≡ false
        some_tag = let g = cases_Bool (eqb t 0) in grind (arith, nat_tests)

        keeps : (o : Who) (es : List Ev) → Plays p (end o (world (cfg p.end) es)) → is_in t (world (cfg p.end) es).drawn ≡ false → Looked (end o (step (cfg p.end) (Opens o t) (world (cfg p.end) es))).conns b q.book →
            Keeps q.book (end o (step (cfg p.end) (Opens o t) (world (cfg p.end) es))).conns
        keeps o es h f = let w = world (cfg p.end) es in
            subst (λ (v : World). Looked (end o v).conns b q.book → Keeps q.book (end o v).conns) (sym (cond-false (is_in t w.drawn || eqb t 0) w (put o (added (new Asked t 0) (end o w)) (m.bare m.Ask t 0 ∷ []) (t ∷ []) w) (or_from f some_tag)))
            (λ l. keeps_opened o w (sound (cfg p.end) es o) b₀ (kept _ h.keeps) t f (m.bare m.Ask t 0 ∷ []) b q.book er (ap vec_items eg) (ap vec_items et) l)
          where
            or_from : {a c : Bool} → a ≡ false → c ≡ false → (a || c) ≡ false
            or_from {a} {c} u v = ap (λ z. z || c) u ∙ v

    pub gave_acts : (t : ℕ) (bs ws : List ℕ) (n : ℕ) → call.GaveSome p.end x t bs n → Ready (length bs) b₀ → b.records ≡ b₀.records → ws ≡ take n bs → (RoomFor (length ws) b₀.given → vec_items b.given ≡ vec_items b₀.given ++ entries t ws) → b.taken ≡ b₀.taken →
        Acts p q [] (λ o. Gives o t (take n bs))
    gave_acts t bs ws n g room er ew eg et = record { settings = agreed g.steps.settings; acted = λ o es h. acted [] o (world (cfg p.end) es) _ (g.steps.world o (world (cfg p.end) es) h.stands) (keeps o es h) }
      where
        written : vec_items b.given ≡ vec_items b₀.given ++ entries t (take n bs)
        written = eg (omega (arith, room.given, ap length ew, length-take n bs)) ∙ ap (λ z. vec_items b₀.given ++ entries t z) ew

        keeps : (o : Who) (es : List Ev) → Plays p (end o (world (cfg p.end) es)) → Looked (end o (step (cfg p.end) (Gives o t (take n bs)) (world (cfg p.end) es))).conns b q.book → Keeps q.book (end o (step (cfg p.end) (Gives o t (take n bs)) (world (cfg p.end) es))).conns
        keeps o es h l = go (by_tag t (end o (world (cfg p.end) es)).conns) refl (g.number _ h.stands)
          where
            free : (c : Conn) → call.give_number bs (There c) ≡ 0 → c.closed ≡ false
            free c k = let g = cases_Bool c.closed in grind (arith, nat_tests)

            go : (f : Found) → by_tag t (end o (world (cfg p.end) es)).conns ≡ f → call.give_number bs f ≡ 0 → Keeps q.book (end o (step (cfg p.end) (Gives o t (take n bs)) (world (cfg p.end) es))).conns
            go NotThere e k = absurd (let z : ◌≡◌ {A = ℕ} 5 0 = k in omega arith)
            go (There c) e k = keeps_gave o (world (cfg p.end) es) (sound (cfg p.end) es o) b₀ (kept _ h.keeps) t c (take n bs) b q.book e (free c k) (ap vec_items er) written (ap vec_items et) l

    -- bytes taken, of a connection that is seen
    pub took_acts : (t : ℕ) (v : View) (before out ws : List ℕ) (n : ℕ) → SeenIn p.end.table t (Some v) → call.TookSome p.end x t before out n → Ready (length before) b₀ → b.records ≡ b₀.records → b.given ≡ b₀.given →
        ws ≡ take n out → (RoomFor (length ws) b₀.taken → vec_items b.taken ≡ vec_items b₀.taken ++ entries t ws) → Acts p q [] (λ o. Takes o t (length before))
    took_acts t v before out ws n seen g room er eg ew et = record { settings = agreed g.steps.settings; acted = λ o es h. acted [] o (world (cfg p.end) es) _ (g.steps.world o (world (cfg p.end) es) h.stands) (keeps o es h) }
      where
        front : (c : Conn) → Took c before out n → ws ≡ take n (drop c.taken c.got)
        front c k = ew ∙ ap (take n) k.bytes ∙ take_at (take n (drop c.taken c.got)) (drop n before) n (length-take n (drop c.taken c.got) ∙ omega (arith, k.count, length-drop c.taken c.got))

        short : (c : Conn) → Took c before out n → length ws ≤ length before
        short c k = omega (arith, ap length (front c k), length-take n (drop c.taken c.got), k.count)

        keeps : (o : Who) (es : List Ev) → Plays p (end o (world (cfg p.end) es)) → Looked (end o (step (cfg p.end) (Takes o t (length before)) (world (cfg p.end) es))).conns b q.book →
            Keeps q.book (end o (step (cfg p.end) (Takes o t (length before)) (world (cfg p.end) es))).conns
        keeps o es h l = go (by_tag t (end o (world (cfg p.end) es)).conns) refl (seen (cfg p.end) _ _ h.stands.table)
          where
            go : (f : Found) → by_tag t (end o (world (cfg p.end) es)).conns ≡ f → Some v ≡ view_of (by_tag t (end o (world (cfg p.end) es)).conns) → Keeps q.book (end o (step (cfg p.end) (Takes o t (length before)) (world (cfg p.end) es))).conns
            go NotThere e k = absurd (some_none (k ∙ ap view_of e))
            go (There c) e k = let z = g.lives _ h.stands c e in
                keeps_took o (world (cfg p.end) es) (sound (cfg p.end) es o) b₀ (kept _ h.keeps) t c (length before) n b q.book e z.count (ap vec_items er) (ap vec_items eg)
                (et (omega (arith, room.taken, short c z)) ∙ ap (λ y. vec_items b₀.taken ++ entries t y) (front c z)) l

    -- a packet heard
    pub heard_acts : (k : m.Packet) (t : ℕ) (out : List m.Packet) → E.Heard p.end x out k k.kind t → Ready 0 b₀ → ((e : End) → Stands x e → RoomFor 1 b₀.records → Met t (by_tag t e.conns) b₀ b) → Draws p q t out (λ o. on_kind (cfg p.end) o k t k.kind)
    heard_acts k t out g room met = record {
      settings = agreed g.settings;
      acted = λ o es h f. let a = g.world o (world (cfg p.end) es) h.stands f in
          acted out o (world (cfg p.end) es) _ a (λ l. keeps_heard o (world (cfg p.end) es) (sound (cfg p.end) es o) b₀ (kept _ h.keeps) t f (cfg p.end) k k.kind b q.book (met _ a.stands room.records) l);
    }

-- nothing is written down at the start
pub new_plays : (o : Who) (p : Party) → Stands p.end (end o start) → vec_items p.book.records ≡ [] → vec_items p.book.given ≡ [] → vec_items p.book.taken ≡ [] → Plays p (end o start)
unfolding bytes_of
new_plays L p s r g t = record { stands = s; keeps = record { tell = subst (λ z. Tell z []) (sym (ap (accounts_of (vec_items p.book.given) (vec_items p.book.taken)) r)) tt; none_given = λ u _. ap (bytes_of u) g; none_taken = λ u _. ap (bytes_of u) t } }
new_plays R p s r g t = record { stands = s; keeps = record { tell = subst (λ z. Tell z []) (sym (ap (accounts_of (vec_items p.book.given) (vec_items p.book.taken)) r)) tt; none_given = λ u _. ap (bytes_of u) g; none_taken = λ u _. ap (bytes_of u) t } }

-- a text that may go out
pub said_acts : (p : Party) (t q k : ℕ) (r : Option Packet) → Says p.end t q k r → Moves p p (sent r) (λ o. says_now (cfg p.end) o t q k)
said_acts p t q k r s = says_acts p (sent r) (λ o. says_now (cfg p.end) o t q k) (λ o w h. after o w h) (λ o w. cond_both (leb (upto_of (by_tag t (end o w).conns)) q && leb k (cfg p.end).size) (step (cfg p.end) (Sends o t q k) w) w (λ v. (end o v).conns ≡ (end o w).conns) (λ _. ap (λ e. e.conns) (end-put o _ _ _ w)) (λ _. refl))
  where
    after : (o : Who) (w : World) → Stands p.end (end o w) → After p.end (sent r) o w (says_now (cfg p.end) o t q k w)
    after o w h = cond_both (leb (upto_of (by_tag t (end o w).conns)) q && leb k (cfg p.end).size) (step (cfg p.end) (Sends o t q k) w) w (After p.end (sent r) o w)
        (λ e. let (a, b) = and_parts _ _ e in s.may o w h (leb-true _ _ a) (leb-true _ _ b))
        (λ e. subst (λ z. After p.end (sent z) o w w) (sym (s.other (end o w) h (λ (a, b). false_true _ e (and_from _ _ (le-leb _ _ a) (le-leb _ _ b))))) (record { stands = h; sends = refl; far = refl; back = refl }))
