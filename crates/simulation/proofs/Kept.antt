-- A pair that stands for a run keeps the sentence, whatever is done.
use mathlib.Core.Bool.{Bool-set}
use Rattle.std.proofs.Common.{ℕ, List, [], ◌++◌, Ok, Err, Result}
use native.Mathlib.Bridge.{le_prop}
use native.Mathlib.Nat.{ℕ_set}
use mathlib.Core.Logic.{∥∥₁_elim, ∥∥₁_map, ∥∥₁_prop}
use Rattle.hold.specs.World.{Ev, L, R, Who, World, start, world}
use Rattle.hold.specs.Packet as m
use Rattle.ledger.specs.Books.{accounts}
use Rattle.ledger.specs.Sentence.{Sentence}
use Rattle.ledger.proofs.Sentences.{sentence}
use Rattle.party.specs.declared.Fault.{Fault}
use Rattle.simulation.specs.Carry.{BroughtBy, Carried, Goes}
use Rattle.simulation.specs.Shows.{Does, Runs, Shows}
use Rattle.simulation.specs.declared.pair.Pair.{Pair}

pub runs_on : (p q : Pair) (fs : World → List Ev) → Does p q fs → ∥ Runs p ∥₁ → ∥ Runs q ∥₁
runs_on p q fs d t = ∥∥₁_map t go
  where
    go : Runs p → Runs q
    go (cfg, es, s) = (cfg, fs (world cfg es) ++ es, d cfg es s)

pub runs_new : (cfg : m.Settings) (p : Pair) → Shows cfg p start → ∥ Runs p ∥₁
unfolding world
runs_new cfg p s = ∣ (cfg, [], s) ∣₁

said : (p : Pair) → Runs p → Sentence (accounts p.halves.left.party.book) (accounts p.halves.right.party.book)
said p (cfg, es, s) = sentence cfg es (accounts p.halves.left.party.book) (accounts p.halves.right.party.book) (s.plays L).keeps.tell (s.plays R).keeps.tell

pub keeps_sentence : (p : Pair) → ∥ Runs p ∥₁ → Sentence (accounts p.halves.left.party.book) (accounts p.halves.right.party.book)
keeps_sentence p t = (λ c m h. ∥∥₁_elim t ∥∥₁_prop (λ r. (said p r).0 c m h), λ c m h. ∥∥₁_elim t ∥∥₁_prop (λ r. (said p r).1 c m h))

pub runs_go : (p q : Pair) → Goes p q → ∥ Runs p ∥₁ → ∥ Runs q ∥₁
runs_go p q g t = ∥∥₁_map t go
  where
    go : Runs p → Runs q
    go (cfg, es, s) = let (fs, w) = g cfg es s in (cfg, fs ++ es, w)

pub carried_goes : (p q : Pair) (o : Who) (t : ℕ) (r : Result ℕ Fault) → Carried p q o t r → Goes p q
carried_goes p q o t (Ok k) c = c.0
carried_goes p q o t (Err f) c = c

pub brought_by : (p q : Pair) (o : Who) (t : ℕ) (r : Result ℕ Fault) → Carried p q o t r → ∥ Runs p ∥₁ → BroughtBy p q o t r
brought_by p q o t (Err f) c h = tt
brought_by p q o t (Ok k) c h = λ a b x ma mb mx ta tx one.
    (∥∥₁_elim h le_prop (λ r. (c.1 r a b x ma mb mx ta tx one).0), ∥∥₁_elim h (ℕ_set _ _) (λ r. (c.1 r a b x ma mb mx ta tx one).1), λ z. ∥∥₁_elim h (Bool-set _ _) (λ r. (c.1 r a b x ma mb mx ta tx one).2 z))
