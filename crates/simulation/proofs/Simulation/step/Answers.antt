use Rattle.simulation.specs.Events.{events}
use Rattle.simulation.proofs.Kept.{keeps_sentence, runs_on}
use Rattle.simulation.proofs.Simulation.step.Goals as goal

pub invariant_of-self : goal.invariant_of-self
invariant_of-self c = record { runs = runs_on c.args.self.now.pair c.obey.new.self (events c.args.self.now.pair c.args.command c.obey.result) c.obey.ensures c.args.self.now.runs }

pub returns : goal.returns
returns c = record {
  did = c.obey.ensures;
  sentence = keeps_sentence c.obey.new.self (runs_on c.args.self.now.pair c.obey.new.self (events c.args.self.now.pair c.args.command c.obey.result) c.obey.ensures c.args.self.now.runs);
}
