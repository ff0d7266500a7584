-- The model never comes to a stand: its due texts and takings meet what the rules ask for. Assumes nothing.
use Rattle.std.proofs.Common.{◌≡◌, ◌+◌, ◌*◌, ◌≤◌, true, false, not, T, List, [], ◌∷◌, ◌++◌, length, refl, ap, ◌∙◌, arith}
use Rattle.std.proofs.lemmas.Bool.{cond-true, cond-false, and_from, eq-eqb, le-ltb}
use Rattle.hold.specs.Packet.{Settings, Packet, Text}
use Rattle.hold.specs.Conn.{Conn, Phase, Asked, Half, Open, Gone, open_with, takes, hears, due}
use Rattle.hold.specs.World.{Who, World, Ev, Listens, Opens, Due, Gives, Closes, Takes, Sends, Breaks, Forgets, Hears, end, other, coming_to, put, changed, gone, is_asked, by_tag, There, due_by, due_if, on_text, on_kind, hears_nth, step, world}
use Rattle.hold.specs.Promise.{At, One, tags, apart, only_moves, lives, NoStand, Main}
use Rattle.hold.specs.Self.{missing}
use Rattle.hold.specs.Live.{System, only, Pair, Heard, Brought, Took, AllCame}
use Rattle.hold.proofs.Bricks.{true→T}
use Rattle.hold.proofs.Table.{by_tag-finds, mem_changed}
use Rattle.hold.proofs.Puts.{end-put, end_put', end_put'', coming-put}
use Rattle.hold.proofs.Carry.{hears-due}
use Rattle.hold.proofs.Inv.{inv, apart-at}
use Rattle.hold.proofs.Parts.{holds, run_chain}
use Rattle.hold.proofs.Live.{rules_bring_lem}

-- one step at a time
due-step : (cfg : Settings) (w : World) (o : Who) (a : Conn) → apart (tags (end o w).conns) ≡ true → At o w a → a.phase ≡ Open → step cfg (Due o a.mine) w ≡ put o (end o w) (due cfg a ∷ []) [] w
due-step cfg w o a h m e = ap (λ z. put o (end o w) (due_if cfg z) [] w) (by_tag-finds _ a h m (ap gone e)) ∙ ap (λ z. put o (end o w) (due_by cfg a z) [] w) e

pub hear-step : (cfg : Settings) (w : World) (q : Who) (p : Packet) (ps : List Packet) → coming_to q w ≡ p ∷ ps → step cfg (Hears q 0 0) w ≡ on_kind cfg q p 0 p.kind w
unfolding hears_nth
hear-step cfg w q p ps e = ap (λ z. hears_nth cfg q 0 0 z w) e

text-step : (cfg : Settings) (w : World) (q : Who) (a b : Conn) → by_tag a.theirs (end q w).conns ≡ There b → is_asked b.phase ≡ false → b.theirs ≡ a.mine →
    on_kind cfg q (due cfg a) 0 Text w ≡ put q (changed b.mine (λ d. hears cfg (due cfg a) (open_with a.mine d)) (end q w)) [] [] w
text-step cfg w q a b e s t = ap (λ z. on_text cfg q (due cfg a) z w) e ∙ cond-true _ _ _ (and_from _ _ (ap not s) (eq-eqb _ _ t))

-- the due text of a, heard by b
module _ (cfg : Settings) (w : World) (tag : (o : Who) → apart (tags (end o w).conns) ≡ true) (o : Who) (a b : Conn) (m : At o w a) (n : At (other o) w b) (e : a.phase ≡ Open) (s : is_asked b.phase ≡ false) (g : gone b.phase ≡ false)
    (k : One a b) where
  told : World
  told = put o (end o w) (due cfg a ∷ []) [] w

  finds : by_tag a.theirs (end (other o) told).conns ≡ There b
  unfolding told
  finds = rw (end_put' o (end o w) (due cfg a ∷ []) [] w, k.0) (by_tag-finds _ b (tag (other o)) n g)

  carried : step cfg (Hears (other o) 0 0) (step cfg (Due o a.mine) w) ≡ put (other o) (changed b.mine (λ d. hears cfg (due cfg a) (open_with a.mine d)) (end (other o) told)) [] [] told
  unfolding told
  carried = ap (step cfg (Hears (other o) 0 0)) (due-step cfg w o a (tag o) m e) ∙ hear-step cfg told (other o) (due cfg a) (coming_to (other o) w) (coming-put o (end o w) (due cfg a ∷ []) [] w) ∙ text-step cfg told (other o) a b finds s k.1

  pub carry : (d : Conn) × At o (step cfg (Hears (other o) 0 0) (step cfg (Due o a.mine) w)) a × At (other o) (step cfg (Hears (other o) 0 0) (step cfg (Due o a.mine) w)) d × Heard cfg a b d
  unfolding told
  carry = (
    hears cfg (due cfg a) (open_with a.mine b),
    rw (carried, end_put'' o _ [] [] told, end-put o (end o w) (due cfg a ∷ []) [] w) m,
    rw (carried, end-put (other o) (changed b.mine (λ d. hears cfg (due cfg a) (open_with a.mine d)) (end (other o) told)) [] [] told, end_put' o (end o w) (due cfg a ∷ []) [] w)
        (mem_changed (λ d. hears cfg (due cfg a) (open_with a.mine d)) _ b (tag (other o)) n g),
    hears-due cfg a b,
  )

pub taken_all : (c : Conn) → (takes (length c.got) c).taken ≡ length c.got
taken_all c = cond-false _ _ _ (le-ltb (c.taken + length c.got) (length c.got) (omega arith))

-- the model's runs, and its moves
abbrev model : (cfg : Settings) → System cfg Ev
model cfg = record { seen = world cfg; allowed = λ _. true; move = λ e. only_moves (e ∷ []); sound = λ es _. run_chain cfg es }

moves-only : (cfg : Settings) (fs : List Ev) → only (model cfg).move fs ≡ true → only_moves fs ≡ true
unfolding only only_moves
moves-only cfg [] h = refl
moves-only cfg (Due o t ∷ es) h = moves-only cfg es h
moves-only cfg (Takes o t n ∷ es) h = moves-only cfg es h
moves-only cfg (Hears o i t ∷ es) h = moves-only cfg es h
moves-only cfg (Sends o t p n ∷ es) h = h
moves-only cfg (Opens o t ∷ es) h = h
moves-only cfg (Gives o t bs ∷ es) h = h
moves-only cfg (Closes o t ∷ es) h = h
moves-only cfg (Breaks o t ∷ es) h = h
moves-only cfg (Forgets o t ∷ es) h = h
moves-only cfg (Listens o b ∷ es) h = h

-- a due text comes over in two events
brings : (cfg : Settings) (es : List Ev) (o : Who) (c d : Conn) → Pair (model cfg) es o c d → Brought (model cfg) 2 es o c d
unfolding world only only_moves
brings cfg es o c d u = let l = alive d.phase u.live_d in go (carry cfg (world cfg es) (apart-at _ (inv cfg es).tagged) o c d u.at_c u.at_d u.open_c l.0 l.1 u.one)
  where
    alive : (h : Phase) → T (lives h) → (is_asked h ≡ false) × (gone h ≡ false)
    alive Asked t = absurd t
    alive Half t = (refl, refl)
    alive Open t = (refl, refl)
    alive Gone t = absurd t

    go : (e : Conn) × At o (world cfg (Hears (other o) 0 0 ∷ Due o c.mine ∷ es)) c × At (other o) (world cfg (Hears (other o) 0 0 ∷ Due o c.mine ∷ es)) e × Heard cfg c d e → Brought (model cfg) 2 es o c d
    go (e, m, n, h) = record {
      after = Hears (other o) 0 0 ∷ Due o c.mine ∷ es;
      reach = record { by = Hears (other o) 0 0 ∷ Due o c.mine ∷ []; is = refl; moves = refl; count = omega arith; ok = tt };
      d' = e;
      at_c = m;
      at_d = n;
      heard = h;
    }

-- a user takes all in one
takes_all : (cfg : Settings) (es : List Ev) (o : Who) (c d : Conn) → Pair (model cfg) es o c d → Took (model cfg) 1 es o c d
unfolding world only only_moves
takes_all cfg es o c d u = record {
  after = Takes o c.mine (length c.got) ∷ es;
  reach = record { by = Takes o c.mine (length c.got) ∷ []; is = refl; moves = refl; count = omega arith; ok = tt };
  c' = takes (length c.got) c;
  at_c = rw (end-put o (changed c.mine (takes (length c.got)) (end o (world cfg es))) [] [] (world cfg es))
      (mem_changed (takes (length c.got)) _ c (apart-at _ (inv cfg es).tagged o) u.at_c (ap gone u.open_c));
  at_d = rw (end_put' o (changed c.mine (takes (length c.got)) (end o (world cfg es))) [] [] (world cfg es)) u.at_d;
  mine = refl;
  theirs = refl;
  phase = refl;
  got = refl;
  given = refl;
  closed = refl;
  taken = taken_all c;
}

pub no_stand : NoStand
no_stand cfg pos es o c d m n u v one = go (rules_bring_lem Ev cfg pos (model cfg) 2 1 (brings cfg) (takes_all cfg) es tt o c d m n u v one)
  where
    go : AllCame (model cfg) ((1 + 2 * 2) * (missing c d + 1) + 2) es o c d → (fs : List Ev) × T (only_moves fs) × (length fs ≤ 6 * missing c d + 12) ×
        ((x : Conn) → At o (world cfg (fs ++ es)) x → x.mine ≡ c.mine → (x.got ≡ d.given) × (d.closed ≡ true → x.ended ≡ true))
    go (fs, _, a, l, g) = (fs, true→T _ (moves-only cfg fs a), omega (arith, l), g)

pub main : Main
main = (holds, no_stand)
