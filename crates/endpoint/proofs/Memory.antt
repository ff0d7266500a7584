-- The memory of a lane is written, and no other's.
use Rattle.std.proofs.Common.{◌≡◌, ℕ, ◌<◌, List, length, set, sym, ap, ◌∙◌, subst, arith}
use Rattle.std.proofs.lemmas.List.{get_or-set_other, get_or-set_same, length-set}
use Rattle.hold.specs.Conn.{Conn}
use Rattle.lent.specs.declared.inbox.Memory.{Memory}
use Rattle.connection.specs.Stand.{ActsAs, Fresh, Rings, rings_of}
use Rattle.connection.specs.declared.connection.Connection.{Connection}
use Rattle.table.specs.Search.{at}
use Rattle.endpoint.specs.Stands.{Sized, cfg, laid, lent, nothing}
use Rattle.endpoint.specs.declared.Endpoint.{Endpoint}

-- what is put at one place of a list is put at another that is the same
pub set_at : {A : Type 0} (xs ys : List A) (k l : ℕ) (v : A) → ys ≡ set xs k v → k ≡ l → ys ≡ set xs l v
set_at xs ys k l v e same = e ∙ ap (λ i. set xs i v) same

-- all but the table is as it was, and all memory but that of a lane
pub record Beside (l : ℕ) (x y : Endpoint) : Type 0 where
  pub listens : y.listens ≡ x.listens
  pub settings : y.settings ≡ x.settings
  pub sized : Sized x → Sized y
  pub others : (k : ℕ) → (k ≡ l → ⊥) → lent y k ≡ lent x k

module _ (l : ℕ) (x y : Endpoint) (el : y.listens ≡ x.listens) (es : y.settings ≡ x.settings) where
  -- no memory is written
  pub beside : y.memory.now ≡ x.memory.now → Beside l x y
  beside em = record {
    listens = el;
    settings = es;
    sized = λ s. ap length em ∙ s;
    others = λ k ne. ap (λ (ms : List Memory). laid ms k) em;
  }

  -- that of the lane is
  pub beside_lane : (m : Memory) → y.memory.now ≡ set x.memory.now l m → Beside l x y
  beside_lane m em = record {
    listens = el;
    settings = es;
    sized = λ s. ap length em ∙ length-set x.memory.now l m ∙ s;
    others = λ k ne. ap (λ (ms : List Memory). laid ms k) em ∙ ap rings_of (get_or-set_other x.memory.now l k m nothing ne);
  }

-- what a lane has then
module _ (l : ℕ) (lt : l < 16) (x : Endpoint) (s : Sized x) (m : Memory) where
  written : rings_of m ≡ laid (set x.memory.now l m) l
  written = ap rings_of (sym (get_or-set_same x.memory.now l m nothing (omega (arith, s, lt))))

  pub acts_in : (z : Connection) (f : Conn → Conn) → ActsAs (cfg x) (at x.table l) (lent x l) z (rings_of m) f → ActsAs (cfg x) (at x.table l) (lent x l) z (laid (set x.memory.now l m) l) f
  acts_in z f = subst (λ (a : Rings). ActsAs (cfg x) (at x.table l) (lent x l) z a f) written

  pub fresh_in : Fresh (rings_of m) → Fresh (laid (set x.memory.now l m) l)
  fresh_in = subst Fresh written
