use Rattle.std.proofs.Common.{sym, refl}
use Rattle.hold.specs.World.{Found, says_if}
use Rattle.packet.specs.Packets.{packet}
use Rattle.endpoint.specs.Saying.{upto_of}
use Rattle.endpoint.specs.Stands.{cfg, lent}
use Rattle.endpoint.proofs.Sayings.{mute, says_none, says_of, speaks}
use Rattle.endpoint.proofs.Endpoint.answer.Goals as goal

pub returns-in_err-lane : goal.returns-in_err-lane
returns-in_err-lane c = let x = c.args.self.now in λ o w s. rw c.from_residual.ensures (says_none x o w s c.args.tag _ (λ (f : Found). says_if (cfg x) (upto_of f) (cfg x).size f) c.in_err-lane.ensures.is refl)

pub returns-then-not-speaks : goal.returns-then-not-speaks
returns-then-not-speaks c = let x = c.args.self.now in λ o w s.
    says_of x o w s c.args.tag _ (λ (f : Found). says_if (cfg x) (upto_of f) (cfg x).size f) c.in_ok-lane.lane c.in_ok-lane.ensures.is (λ d t. mute (cfg x) _ d t d.upto (cfg x).size (sym c.if-not-speaks.ensures))

pub returns : goal.returns
returns c = let x = c.args.self.now in λ o w s.
    says_of x o w s c.args.tag _ (λ (f : Found). says_if (cfg x) (upto_of f) (cfg x).size f) c.in_ok-lane.lane c.in_ok-lane.ensures.is
    (λ d t. speaks (cfg x) _ d t d.upto (cfg x).size (sym c.if-not-speaks.ensures) (packet c.answer.result) (c.answer.ensures (lent x c.in_ok-lane.lane).into (lent x c.in_ok-lane.lane).bits d t))
