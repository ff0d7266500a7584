use Rattle.std.proofs.Common.{rules, [], ◌∷◌, take, refl}
use Rattle.hold.specs.World.{Breaks, Closes, Due, Forgets, Gives, Hears, Opens, Takes}
use Rattle.packet.specs.Sizes.{capacity}
use Rattle.simulation.specs.Events.{count}
use Rattle.simulation.specs.Shows.{answers, sends, who_of}
use Rattle.simulation.specs.declared.command.Answer.TheVariants.{Gave, Heard, Took}
use Rattle.simulation.proofs.Obeying.{done_when, told_when}
use Rattle.simulation.proofs.pair.Pair.obey.Goals as goal

pub returns-in-Listen : goal.returns-in-Listen
returns-in-Listen c = rw c.in-Listen.is c.listen.ensures

pub returns-in-Open : goal.returns-in-Open
returns-in-Open c = rw c.in-Open.is (done_when c.args.self.now _ (λ _. Opens (who_of c.in-Open.side) c.in-Open.tag ∷ []) _ _ c.done.ensures (search rules))

pub returns-in-Close : goal.returns-in-Close
returns-in-Close c = rw c.in-Close.is (done_when c.args.self.now _ (λ _. Closes (who_of c.in-Close.side) c.in-Close.tag ∷ []) _ _ c.done-in-Close.ensures (search rules))

pub returns-in-Break : goal.returns-in-Break
returns-in-Break c = rw c.in-Break.is (done_when c.args.self.now _ (λ _. Breaks (who_of c.in-Break.side) c.in-Break.tag ∷ []) _ _ c.done-in-Break.ensures (search rules))

pub returns-in-Forget : goal.returns-in-Forget
returns-in-Forget c = rw c.in-Forget.is (done_when c.args.self.now _ (λ _. Forgets (who_of c.in-Forget.side) c.in-Forget.tag ∷ []) _ _ c.done-in-Forget.ensures (search rules))

pub returns-in-Due : goal.returns-in-Due
returns-in-Due c = rw c.in-Due.is (done_when c.args.self.now _ (λ _. Due (who_of c.in-Due.side) c.in-Due.tag ∷ []) _ _ c.done-in-Due.ensures (search rules))

pub returns-in-Answer : goal.returns-in-Answer
returns-in-Answer c = rw c.in-Answer.is (done_when c.args.self.now _ (answers c.args.self.now (who_of c.in-Answer.side) c.in-Answer.tag) _ _ c.done-in-Answer.ensures (search rules))

pub returns-in-Send : goal.returns-in-Send
returns-in-Send c = rw c.in-Send.is (done_when c.args.self.now _ (sends c.args.self.now (who_of c.in-Send.side) c.in-Send.tag c.in-Send.span.place c.in-Send.span.most) _ _ c.done-in-Send.ensures (search rules))

pub returns-in-Give : goal.returns-in-Give
returns-in-Give c = rw c.in-Give.is (told_when c.args.self.now _ (λ n. Gives (who_of c.in-Give.side) c.in-Give.tag (take n c.in-Give.bytes.now) ∷ []) (λ a. Gives (who_of c.in-Give.side) c.in-Give.tag (take (count a) c.in-Give.bytes.now) ∷ []) Gave c.give.result _ c.map.ensures.cases (λ _. refl) c.give.ensures)

pub returns-in-Take : goal.returns-in-Take
returns-in-Take c = rw c.in-Take.is (told_when c.args.self.now _ (λ _. Takes (who_of c.in-Take.side) c.in-Take.tag capacity ∷ []) (λ _. Takes (who_of c.in-Take.side) c.in-Take.tag capacity ∷ []) Took c.take_all.result _ c.map-in-Take.ensures.cases (λ _. refl) c.take_all.ensures)

pub returns-in-Deliver : goal.returns-in-Deliver
returns-in-Deliver c = rw c.in-Deliver.is (told_when c.args.self.now _ (λ k. Hears (who_of c.in-Deliver.side) k c.in-Deliver.draws ∷ []) (λ a. Hears (who_of c.in-Deliver.side) (count a) c.in-Deliver.draws ∷ []) Heard c.deliver.result _ c.map-in-Deliver.ensures.cases (λ _. refl) c.deliver.ensures.did)
