use Rattle.std.proofs.Common.{sym, refl, arith}
use Rattle.hold.specs.World.{end, says_if}
use Rattle.packet.specs.Packets.{packet}
use Rattle.endpoint.specs.Stands.{cfg, lent}
use Rattle.endpoint.proofs.Sayings.{mute, says_none, says_of, says_so, speaks, upto_is}
use Rattle.endpoint.proofs.Endpoint.send.Goals as goal
use Rattle.endpoint.proofs.Endpoint.send.Goals.{then-span-c-via-then-span-c, then-span-c-via-else-span-c+then-span-self, then-span-c-via-else-span-c+else-span-self+then-not-speaks}

pub returns-in_err-lane : goal.returns-in_err-lane
returns-in_err-lane c = let x = c.args.self.now in record {
  may = λ o w s a b. rw c.from_residual.ensures (says_none x o w s c.args.tag _ (says_if (cfg x) c.args.span.place c.args.span.most) c.in_err-lane.ensures.is refl);
  other = λ e s n. c.from_residual.ensures;
}

pub returns-then-span-c : goal.returns-then-span-c
returns-then-span-c c = let x = c.args.self.now in record {
  may = λ o w s a b. elim c.then-span-c.branch [
    | then-span-c-via-then-span-c q ↦ absurd (omega (arith, a, q.if-span-c.true, upto_is x (end o w) s c.args.tag c.in_ok-lane.lane c.in_ok-lane.ensures.is))
    | then-span-c-via-else-span-c+then-span-self q ↦ absurd (omega (arith, b, q.if-span-self.true))
    | then-span-c-via-else-span-c+else-span-self+then-not-speaks q ↦ says_of x o w s c.args.tag _ (says_if (cfg x) c.args.span.place c.args.span.most) c.in_ok-lane.lane c.in_ok-lane.ensures.is
        (λ d t. mute (cfg x) _ d t c.args.span.place c.args.span.most (sym q.if-not-speaks.ensures))
  ];
  other = λ e s n. refl;
}

pub returns : goal.returns
returns c = let x = c.args.self.now in record {
  may = λ o w s a b. says_of x o w s c.args.tag _ (says_if (cfg x) c.args.span.place c.args.span.most) c.in_ok-lane.lane c.in_ok-lane.ensures.is
      (λ d t. speaks (cfg x) _ d t c.args.span.place c.args.span.most (sym c.if-not-speaks.ensures) (packet c.says.result)
      (says_so (cfg x) _ d t c.args.span.place c.args.span.most c.if-span-c.false c.if-span-self.false (packet c.says.result) (c.says.ensures (lent x c.in_ok-lane.lane).into (lent x c.in_ok-lane.lane).bits d t)));
  other = λ e s n. absurd (n (omega (arith, c.if-span-c.false, upto_is x e s c.args.tag c.in_ok-lane.lane c.in_ok-lane.ensures.is), c.if-span-self.false));
}
