use Rattle.std.proofs.Common.{true, false, sym, refl}
use Rattle.packet.specs.Packets.{packet_in}
use Rattle.endpoint.proofs.Hearings.{number-is}
use Rattle.endpoint.proofs.Endpoint.check.Goals as goal

pub returns-then-lacks_tag : goal.returns-then-lacks_tag
returns-then-lacks_tag c = let ts = c.args.p.text.now in
    sym (number-is c.args.self.now (packet_in c.args.p) c.args.tag true _ _ _ _ _ c.if-p-gt-SIZE.false (c.if-lacks_tag.ensures ts) refl (c.needs_connection-needed.ensures ts) refl refl refl)

pub returns-then-is_beyond : goal.returns-then-is_beyond
returns-then-is_beyond c = let ts = c.args.p.text.now in
    sym (number-is c.args.self.now (packet_in c.args.p) c.args.tag false true _ _ _ _ c.if-p-gt-SIZE.false (c.if-lacks_tag.ensures ts) (c.if-is_beyond.ensures) (c.needs_connection-needed.ensures ts) refl refl refl)

pub returns-then-not-needed : goal.returns-then-not-needed
returns-then-not-needed c = let ts = c.args.p.text.now in
    number-is c.args.self.now (packet_in c.args.p) c.args.tag false false _ false _ _ c.if-p-gt-SIZE.false (c.if-lacks_tag.ensures ts) (c.if-is_beyond.ensures) (c.needs_connection-needed.ensures ts) c.if-not-needed.true refl refl

pub returns-then-not-has_room : goal.returns-then-not-has_room
returns-then-not-has_room c = let ts = c.args.p.text.now in
    sym (number-is c.args.self.now (packet_in c.args.p) c.args.tag false false _ true false _ c.if-p-gt-SIZE.false (c.if-lacks_tag.ensures ts) (c.if-is_beyond.ensures) (c.needs_connection-needed.ensures ts) c.if-not-needed.false c.if-not-has_room.ensures refl)

pub returns-then-has : goal.returns-then-has
returns-then-has c = let ts = c.args.p.text.now in
    sym (number-is c.args.self.now (packet_in c.args.p) c.args.tag false false _ true true true c.if-p-gt-SIZE.false (c.if-lacks_tag.ensures ts) (c.if-is_beyond.ensures) (c.needs_connection-needed.ensures ts) c.if-not-needed.false c.if-not-has_room.ensures c.if-has.ensures)

pub returns : goal.returns
returns c = let ts = c.args.p.text.now in
    number-is c.args.self.now (packet_in c.args.p) c.args.tag false false _ true true false c.if-p-gt-SIZE.false (c.if-lacks_tag.ensures ts) (c.if-is_beyond.ensures) (c.needs_connection-needed.ensures ts) c.if-not-needed.false c.if-not-has_room.ensures c.if-has.ensures
