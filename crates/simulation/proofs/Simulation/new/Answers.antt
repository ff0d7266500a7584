use Rattle.packet.specs.Agreed.{cfg_of}
use Rattle.simulation.proofs.Kept.{keeps_sentence, runs_new}
use Rattle.simulation.proofs.Simulation.new.Goals as goal

pub invariant_of-result : goal.invariant_of-result
invariant_of-result c = record { runs = runs_new (cfg_of c.args.settings) c.new.result c.new.ensures }

pub returns : goal.returns
returns c = record { sentence = keeps_sentence c.new.result (runs_new (cfg_of c.args.settings) c.new.result c.new.ensures) }
