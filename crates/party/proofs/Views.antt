-- What is seen of a connection of the code is what is to be seen of the model's.
use Rattle.std.proofs.Common.{◌≡◌, ℕ, Bool, not, List, get_or, is_some, Some, None, Option, refl, sym, ap, ◌∙◌}
use Rattle.hold.specs.Code.{owes}
use Rattle.hold.specs.Conn.{Conn}
use Rattle.hold.specs.Packet.{Settings}
use Rattle.hold.specs.World.{is_asked, is_open, by_tag, There}
use Rattle.connection.specs.Fields.{blank}
use Rattle.connection.specs.Phases.{last_of, phase_of}
use Rattle.connection.specs.Stand.{Rings, Stand1}
use Rattle.connection.specs.declared.connection.Connection.{Connection}
use Rattle.ledger.specs.Books.{view_of}
use Rattle.ledger.specs.Tells.{is_said}
use Rattle.ledger.specs.declared.record.View.{View}
use Rattle.table.specs.Lodges.{InLane, Lodges}
use Rattle.table.specs.Search.{finds}
use Rattle.table.specs.declared.Table.{Table}
use Rattle.table.specs.declared.Wanted.TheVariants.{Tag}
use Rattle.table.proofs.Housing.{is_there_lem, not_there}
use Rattle.table.proofs.Lodging.{by_tag_lem}

abbrev view_from : Connection → Bool → View
view_from x b = record { peer = x.pairing.theirs; settled = not (is_asked (phase_of x.pairing.phase)); opened = is_open (phase_of x.pairing.phase); given = x.stream.sender.given; closed = x.stream.closed; arrived = x.stream.receiver.got; heard = is_said (last_of x.stream.end); told = x.stream.ended; upto = x.stream.sender.upto; all = x.stream.all; owes = b }

pub said : (end : Option ℕ) → is_some end ≡ is_said (last_of end)
said None = refl
said (Some p) = refl

pub view_is : (cfg : Settings) (mem : Rings) (x : Connection) (d : Conn) → Stand1 cfg x mem d → Some (view_from x (owes d)) ≡ view_of (There d)
view_is cfg mem x d s = let g = s.holds.got_all in let h = s.waits.given_all in let e = s.is in cc

-- by a search
pub look_none : (cfg : Settings) (mem : ℕ → Rings) (x : Table) (cs : List Conn) (t : ℕ) → Lodges cfg mem x cs → None ≡ finds (Tag t) x → None ≡ view_of (by_tag t cs)
look_none cfg mem x cs t h e = sym (ap view_of (not_there (InLane cfg mem x.conns) (finds (Tag t) x) (by_tag t cs) e (by_tag_lem cfg mem x h t)))

pub look_some : (cfg : Settings) (mem : ℕ → Rings) (x : Table) (cs : List Conn) (t l : ℕ) (v : View) → Lodges cfg mem x cs → Some l ≡ finds (Tag t) x → ((d : Conn) → Stand1 cfg (get_or x.conns l blank) (mem l) d → Some v ≡ view_of (There d)) → Some v ≡ view_of (by_tag t cs)
look_some cfg mem x cs t l v h e f = go (is_there_lem (InLane cfg mem x.conns) (finds (Tag t) x) (by_tag t cs) l e (by_tag_lem cfg mem x h t))
  where
    go : (c : Conn) × (by_tag t cs ≡ There c) × InLane cfg mem x.conns l c → Some v ≡ view_of (by_tag t cs)
    go (c, q, s) = f c s ∙ sym (ap view_of q)
