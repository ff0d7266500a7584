use Rattle.packet.specs.Agreed.{cfg_of}
use Rattle.simulation.proofs.Kept.{keeps_sentence, runs_new}
use Rattle.simulation.proofs.Simulation.restart.Goals as goal

pub invariant_of-result : goal.invariant_of-result
invariant_of-result c = record { runs = runs_new (cfg_of c.args.settings) c.restart.result c.restart.ensures }

pub returns : goal.returns
returns c = record { sentence = keeps_sentence c.restart.result (runs_new (cfg_of c.args.settings) c.restart.result c.restart.ensures) }
