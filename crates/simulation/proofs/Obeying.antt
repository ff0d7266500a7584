-- What a line of a script does, by what it answered.
use Rattle.std.proofs.Common.{◌≡◌, List, Ok, Err, Result, sym, ap, ◌∙◌, subst}
use Rattle.std.specs.Prelude.{IsOkAnd, MatchResult}
use Rattle.hold.specs.World.{Ev, World}
use Rattle.party.specs.declared.Fault.{Fault}
use Rattle.simulation.specs.Events.{done_by}
use Rattle.simulation.specs.Shows.{Does, when_ok}
use Rattle.simulation.specs.declared.command.Answer.{Answer}
use Rattle.simulation.specs.declared.pair.Pair.{Pair}

pub done_when : (p q : Pair) (fs : World → List Ev) (r : Result (Unit {0}) Fault) (a : Result Answer Fault) → a ≡ done_by r → Does p q (λ w. when_ok (λ _. fs w) r) → Does p q (λ w. when_ok (λ _. fs w) a)
done_when p q fs (Ok u) a e d = subst (λ z. Does p q (λ w. when_ok (λ _. fs w) z)) (sym e) d
done_when p q fs (Err f) a e d = subst (λ z. Does p q (λ w. when_ok (λ _. fs w) z)) (sym e) d

pub told_when : {A : Type 0} (p q : Pair) (g : A → List Ev) (h : Answer → List Ev) (f : A → Answer) (r : Result A Fault) (a : Result Answer Fault) → MatchResult r (λ x. IsOkAnd a (λ y. y ≡ f x)) (λ e. a ≡ Err e) → ((x : A) → h (f x) ≡ g x) → Does p q (λ _. when_ok g r) → Does p q (λ _. when_ok h a)
told_when p q g h f (Ok x) (Ok y) c e d = subst (λ z. Does p q (λ _. z)) (sym (ap h c ∙ e x)) d
told_when p q g h f (Ok x) (Err z) c e d = absurd c
told_when p q g h f (Err z) a c e d = subst (λ y. Does p q (λ _. when_ok h y)) (sym c) d
