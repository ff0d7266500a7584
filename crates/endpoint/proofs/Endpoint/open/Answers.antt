use Rattle.std.proofs.Common.{rules}
use Rattle.hold.specs.Conn.{Asked, new}
use Rattle.hold.specs.World.{end}
use Rattle.packet.specs.Packets.{packet}
use Rattle.endpoint.specs.Stands.{cfg}
use Rattle.endpoint.proofs.Ends.{opens_new}
use Rattle.endpoint.proofs.Endpoint.open.Goals as goal

pub returns : goal.returns
returns c = let x = c.args.self.now in (
  search rules,
  record {
    settings = c.in_ok-add.ensures.0;
    world = λ o w s d. opens_new x _ o w c.args.tag (c.in_ok-add.ensures.1 (end o w) (new Asked c.args.tag 0) s (λ mem. c.new.ensures (cfg x) mem x.settings.held)) d c.if-tag-eq0.false (packet c.bare.result) c.bare.ensures;
  },
)
