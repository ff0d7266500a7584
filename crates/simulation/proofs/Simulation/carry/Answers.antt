use Rattle.simulation.specs.Shows.{who_of}
use Rattle.simulation.proofs.Kept.{brought_by, carried_goes, keeps_sentence, runs_go}
use Rattle.simulation.proofs.Simulation.carry.Goals as goal

pub invariant_of-self : goal.invariant_of-self
invariant_of-self c = record { runs = runs_go c.args.self.now.pair c.carry.new.self (carried_goes _ _ (who_of c.args.side) c.args.tag c.carry.result c.carry.ensures) c.args.self.now.runs }

pub returns : goal.returns
returns c = record {
  brought = brought_by c.args.self.now.pair c.carry.new.self (who_of c.args.side) c.args.tag c.carry.result c.carry.ensures c.args.self.now.runs;
  sentence = keeps_sentence c.carry.new.self (runs_go c.args.self.now.pair c.carry.new.self (carried_goes _ _ (who_of c.args.side) c.args.tag c.carry.result c.carry.ensures) c.args.self.now.runs);
}
