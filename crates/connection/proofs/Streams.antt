-- Steps of a stream, between whomever it is.
use Rattle.std.specs.Bool.{then_some}
use Rattle.std.specs.Option.{option_eq, option_or}
use Rattle.std.specs.Prelude.{nat_eq}
use Rattle.std.proofs.Common.{◌≡◌, ℕ, ◌+◌, ◌≤◌, max, Bool, true, false, Some, refl, cond, ◌||◌, List, [], ◌++◌, length, Option, None, sym, ap, ◌∙◌}
use Rattle.std.proofs.lemmas.Bool.{cond-false}
use Rattle.hold.specs.Packet as m
use Rattle.hold.specs.Packet.{Piece, larger, lower}
use Rattle.hold.specs.Conn.{gives, advance, ends, said, heard, keep, turn, from}
use Rattle.hold.proofs.Bridge.{larger_lib}
use Rattle.packet.specs.Sizes.{capacity}
use Rattle.lent.specs.Bits.{AllAre}
use Rattle.lent.specs.Rings.{Waits, Holds}
use Rattle.lent.specs.declared.sender.Sender.{Sender}
use Rattle.lent.specs.declared.receiver.Receiver.{Receiver}
use Rattle.connection.specs.Phases.{last_of}
use Rattle.connection.specs.Stand.{Past, conn_of, Flows, Began, rings, join}
use Rattle.connection.specs.declared.stream.Stream.{Stream}

pub begins : (s : Sender) (r : Receiver) → ((ring : List ℕ) → length ring ≡ capacity → Waits s ring []) → s.upto ≡ 0 →
    ((w : ℕ) (ring bits : List ℕ) → w ≤ capacity → length ring ≡ capacity → AllAre 0 capacity false bits → Holds w r ring bits [] []) → r.taken ≡ 0 →
    Began (record { sender = s; receiver = r; closed = false; sees = 0; all = false; end = None; ended = false })
begins s r w eu h et cfg q mem le fresh = record {
  past = record { opened = false; given = []; got = []; kept = [] };
  is = cc;
  waits = w mem.out fresh.out;
  holds = h cfg.room mem.into mem.bits le fresh.into fresh.bits;
}

abbrev pub with_sender : Stream → Sender → Stream
with_sender x s = record { sender = s; receiver = x.receiver; closed = x.closed; sees = x.sees; all = x.all; end = x.end; ended = x.ended }

abbrev pub with_receiver : Stream → Receiver → Bool → Stream
with_receiver x r e = record { sender = x.sender; receiver = r; closed = x.closed; sees = x.sees; all = x.all; end = x.end; ended = e }

pub flows_give : (cfg : m.Settings) (x : Stream) (s : Sender) (ring ring2 bs : List ℕ) → x.closed ≡ false → s.upto ≡ x.sender.upto → ((g : List ℕ) → Waits x.sender ring g → Waits s ring2 (g ++ bs)) →
    (into bits : List ℕ) → Flows cfg x (rings ring into bits) (with_sender x s) (rings ring2 into bits) (gives bs)
flows_give cfg x s ring ring2 bs cl up w into bits q c st =
    let g = st.past.given in
    let e : cond x.closed g (g ++ bs) ≡ g ++ bs = cond-false x.closed g (g ++ bs) cl in
    let h : Past = record { opened = st.past.opened; given = g ++ bs; got = st.past.got; kept = st.past.kept } in
    let i : conn_of (join q (with_sender x s)) h ≡ gives bs (conn_of (join q x) st.past) = cc in
    record { past = h; is = i ∙ ap (gives bs) st.is; waits = w g st.waits; holds = st.holds }

-- whether the end is at a place, and what a text says of it, by the code's option
pub ends-at : (e : Option ℕ) (n : ℕ) → option_eq nat_eq e (Some n) ≡ ends (last_of e) n
ends-at None n = refl
ends-at (Some p) n = refl

said-or : (e : Option ℕ) (l : Bool) (n : ℕ) → last_of (option_or e (then_some l n)) ≡ said l n (last_of e)
said-or (Some p) l n = refl
said-or None true n = refl
said-or None false n = refl

pub flows_advance : (cfg : m.Settings) (x : Stream) (r : Receiver) (b : Bool) (bits bits2 : List ℕ) → r.taken ≡ x.receiver.taken → b ≡ (x.ended || ends (last_of x.end) r.got) →
    ((ring g : List ℕ) (ks : List Piece) → Holds cfg.room x.receiver ring bits g ks → Holds cfg.room r ring bits2 (g ++ turn (length ks) (length g) ks) (from (length (g ++ turn (length ks) (length g) ks)) ks)) →
    (out into : List ℕ) → Flows cfg x (rings out into bits) (with_receiver x r b) (rings out into bits2) advance
flows_advance cfg x r b bits bits2 et eb h out into q c st =
    let g = st.past.got in
    let ks = st.past.kept in
    let g2 = g ++ turn (length ks) (length g) ks in
    let p : Past = record { opened = st.past.opened; given = st.past.given; got = g2; kept = from (length g2) ks } in
    let h2 = h into g ks st.holds in
    let e : b ≡ (x.ended || ends (last_of x.end) (length g2)) = eb ∙ ap (λ k. x.ended || ends (last_of x.end) k) h2.got_all in
    let i : conn_of (join q (with_receiver x r b)) p ≡ advance (conn_of (join q x) st.past) = cc in
    record { past = p; is = i ∙ ap advance st.is; waits = st.waits; holds = h2 }

abbrev pub heard_by : Stream → ℕ → Bool → Option ℕ → Sender → Stream
heard_by x sees all end s = record { sender = s; receiver = x.receiver; closed = x.closed; sees = sees; all = all; end = end; ended = x.ended }

pub flows_heard : (cfg : m.Settings) (x : Stream) (p : m.Packet) (sees : ℕ) (end : Option ℕ) (s : Sender) (ring bits ring2 bits2 : List ℕ) → sees ≡ max x.sees p.edge →
    end ≡ option_or x.end (then_some p.last (p.place + length p.text)) → s.upto ≡ larger x.sender.upto p.upto → ((ring g : List ℕ) → Waits x.sender ring g → Waits s ring g) →
    ((g : List ℕ) (ks : List Piece) → Holds cfg.room x.receiver ring bits g ks → Holds cfg.room x.receiver ring2 bits2 g (keep (length g) (x.receiver.taken + cfg.room) p.place p.text ks)) →
    (out : List ℕ) → Flows cfg x (rings out ring bits) (heard_by x sees (x.all || p.all) end s) (rings out ring2 bits2) (heard cfg p)
flows_heard cfg x p sees end s ring bits ring2 bits2 es ee eu w h out q c st =
    let g = st.past.got in
    let ks = keep (length g) (x.receiver.taken + cfg.room) p.place p.text st.past.kept in
    let b : Past = record { opened = st.past.opened; given = st.past.given; got = g; kept = ks } in
    let e : sees ≡ larger x.sees p.edge = es ∙ sym (larger_lib x.sees p.edge) in
    let l : last_of end ≡ said p.last (p.place + length p.text) (last_of x.end) = ap last_of ee ∙ said-or x.end p.last (p.place + length p.text) in
    let i : conn_of (join q (heard_by x sees (x.all || p.all) end s)) b ≡ heard cfg p (conn_of (join q x) st.past) = cc in
    record { past = b; is = i ∙ ap (heard cfg p) st.is; waits = w out st.past.given st.waits; holds = h g st.past.kept st.holds }
