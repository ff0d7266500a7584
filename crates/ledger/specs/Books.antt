-- The accounts that a book has.
use Rattle.std.specs.Prelude.{◌≡◌, ℕ, false, cond, not, ◌||◌, List, [], ◌∷◌, ◌++◌, map, reverse, length, Some, None, vec_items, Option, ◌==◌}
use Rattle.hold.specs.World.{is_open, is_asked, Found, NotThere, There, by_tag, is_in}
use Rattle.hold.specs.Code.{owes}
use Rattle.hold.specs.Conn.{Conn}
use Rattle.hold.specs.Promise.{tags}
use Rattle.ledger.specs.Sentence.{Account}
use Rattle.ledger.specs.Tells.{is_said, Tell}
use Rattle.ledger.specs.declared.book.Book.{Book}
use Rattle.ledger.specs.declared.record.Record.{Record}
use Rattle.ledger.specs.declared.record.Entry.{Entry}
use Rattle.ledger.specs.declared.record.View.{View}

abbrev pub fresh : ℕ → Record
fresh t = record { tag = t; peer = 0; opened = false; closed = false; arrived = 0; heard = false; told = false; upto = 0; all = false }

abbrev pub noted : View → Record → Record
noted v r = record { tag = r.tag; peer = v.peer; opened = r.opened || v.opened; closed = v.closed; arrived = v.arrived; heard = v.heard; told = v.told; upto = v.upto; all = v.all }

-- the other's tag, once it is known: of a connection of the model, and of what is to be seen of one
abbrev pub peer_of : Conn → Option ℕ
peer_of c = cond (is_asked c.phase) None (Some c.theirs)

abbrev pub partner_of : View → Option ℕ
partner_of v = cond v.settled (Some v.peer) None

-- what is to be seen of a connection of the model
abbrev pub view_of : Found → Option View
view_of NotThere = None
view_of (There c) = Some (record { peer = c.theirs; settled = not (is_asked c.phase); opened = is_open c.phase; given = length c.given; closed = c.closed; arrived = length c.got; heard = is_said c.end; told = c.ended; upto = c.upto; all = c.all; owes = owes c })

abbrev pub entries : ℕ → List ℕ → List Entry
entries t bs = map (λ b. record { tag = t; byte = b }) bs

-- the bytes of a tag
unfoldable pub bytes_of : ℕ → List Entry → List ℕ
bytes_of t [] = []
bytes_of t (e ∷ es) = cond (e.tag == t) (e.byte ∷ bytes_of t es) (bytes_of t es)

abbrev pub account : List Entry → List Entry → Record → Account
account gs ts r = record { tag = r.tag; peer = r.peer; opened = r.opened; given = bytes_of r.tag gs; closed = r.closed; arrived = r.arrived; taken = bytes_of r.tag ts; heard = r.heard; told = r.told; upto = r.upto; all = r.all }

-- all accounts, the latest first
abbrev pub accounts_of : List Entry → List Entry → List Record → List Account
accounts_of gs ts rs = map (account gs ts) (reverse rs)

abbrev pub accounts : Book → List Account
accounts b = accounts_of (vec_items b.given) (vec_items b.taken) (vec_items b.records)

abbrev pub noted_by : Option View → Record → Record
noted_by None r = r
noted_by (Some v) r = noted v r

-- a record after a look at these connections
abbrev pub noted_in : List Conn → Record → Record
noted_in cs r = noted_by (view_of (by_tag r.tag cs)) r

-- A book keeps these connections: its accounts tell of them, and no bytes are written down of others.
pub record Keeps (b : Book) (cs : List Conn) : Type 0 where
  pub tell : Tell (accounts b) cs
  pub none_given : (t : ℕ) → is_in t (tags cs) ≡ false → bytes_of t (vec_items b.given) ≡ []
  pub none_taken : (t : ℕ) → is_in t (tags cs) ≡ false → bytes_of t (vec_items b.taken) ≡ []

-- y is x after a look at these connections
pub record Looked (cs : List Conn) (x y : Book) : Type 0 where
  pub records : vec_items y.records ≡ map (noted_in cs) (vec_items x.records)
  pub given : y.given ≡ x.given
  pub taken : y.taken ≡ x.taken

-- y has the records of x, and one more if a connection with the tag is there
abbrev pub Met : ℕ → Found → Book → Book → Type 0
Met t NotThere x y = (vec_items y.records ≡ vec_items x.records) × (y.given ≡ x.given) × (y.taken ≡ x.taken)
Met t (There c) x y = (vec_items y.records ≡ vec_items x.records ++ fresh t ∷ []) × (y.given ≡ x.given) × (y.taken ≡ x.taken)
