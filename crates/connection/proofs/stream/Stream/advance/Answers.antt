use Rattle.std.proofs.Common.{◌||◌, ap, ◌∙◌}
use Rattle.packet.specs.Agreed.{cfg_of}
use Rattle.connection.proofs.Streams.{ends-at, flows_advance}
use Rattle.connection.proofs.stream.Stream.advance.Goals as goal

pub returns : goal.returns
returns c = flows_advance (cfg_of c.args.settings) c.args.self c.advance-self.result _ c.args.bits.now _ c.advance-self.ensures.taken
    (ap (λ b. c.args.self.ended || b) (c.eq.ensures ∙ ends-at c.args.self.end c.advance-self.result.got)) c.advance-self.ensures.holds
