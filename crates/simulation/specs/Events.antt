-- The events of the model that a line of a script is, by its answer.
use Rattle.std.specs.Prelude.{ℕ, List, [], ◌∷◌, take, Ok, Err, Result}
use Rattle.hold.specs.World as w
use Rattle.packet.specs.Sizes.{capacity}
use Rattle.party.specs.declared.Fault.{Fault}
use Rattle.simulation.specs.Shows.{answers, sends, when_ok, who_of}
use Rattle.simulation.specs.declared.command.Answer.{Answer}
use Rattle.simulation.specs.declared.command.Answer.TheVariants.{Done, Gave, Took, Heard}
use Rattle.simulation.specs.declared.command.Command.{Command}
use Rattle.simulation.specs.declared.command.Command.TheVariants as C
use Rattle.simulation.specs.declared.pair.Pair.{Pair}

abbrev pub done_by : Result (Unit {0}) Fault → Result Answer Fault
done_by (Ok u) = Ok Done
done_by (Err f) = Err f

-- the number of an answer
abbrev pub count : Answer → ℕ
count Done = 0
count (Gave n) = n
count (Took n) = n
count (Heard k) = k

abbrev pub events : Pair → Command → Result Answer Fault → w.World → List w.Ev
events p (C.Listen s b) r v = w.Listens (who_of s) b ∷ []
events p (C.Open s t) r v = when_ok (λ _. w.Opens (who_of s) t ∷ []) r
events p (C.Give s t bs) r v = when_ok (λ a. w.Gives (who_of s) t (take (count a) bs.now) ∷ []) r
events p (C.Take s t) r v = when_ok (λ _. w.Takes (who_of s) t capacity ∷ []) r
events p (C.Close s t) r v = when_ok (λ _. w.Closes (who_of s) t ∷ []) r
events p (C.Break s t) r v = when_ok (λ _. w.Breaks (who_of s) t ∷ []) r
events p (C.Forget s t) r v = when_ok (λ _. w.Forgets (who_of s) t ∷ []) r
events p (C.Due s t) r v = when_ok (λ _. w.Due (who_of s) t ∷ []) r
events p (C.Answer s t) r v = when_ok (λ _. answers p (who_of s) t v) r
events p (C.Send s t part) r v = when_ok (λ _. sends p (who_of s) t part.place part.most v) r
events p (C.Deliver s i t) r v = when_ok (λ a. w.Hears (who_of s) (count a) t ∷ []) r
