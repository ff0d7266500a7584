use Rattle.std.proofs.Common.{rules, true, false, take, sym, refl, ◌∙◌}
use Rattle.hold.specs.Conn.{gives}
use Rattle.hold.specs.World.{Gives}
use Rattle.endpoint.specs.Calls.{give_number}
use Rattle.endpoint.specs.Stands.{cfg}
use Rattle.endpoint.proofs.Memory.{acts_in, beside_lane}
use Rattle.endpoint.proofs.Ends.{found_as, numbered_none, numbered_some, steps_some}
use Rattle.endpoint.proofs.Users.{give_closed, give-count, give-open}
use Rattle.endpoint.proofs.Endpoint.give.Goals as goal

pub returns-in_err-lane : goal.returns-in_err-lane
returns-in_err-lane c = let h = numbered_none c.args.self.now c.args.tag (give_number c.args.bytes.now) c.in_err-lane.ensures.0 in search rules

pub returns-then-c : goal.returns-then-c
returns-then-c c = let x = c.args.self.now in
    (numbered_some x c.args.tag (give_number c.args.bytes.now) c.in_ok-lane.lane 6 c.in_ok-lane.ensures.0 (λ d s. give_closed (cfg x) _ d s c.args.bytes.now c.if-c.true), refl)

pub returns-then-is_beyond : goal.returns-then-is_beyond
returns-then-is_beyond c = let x = c.args.self.now in
    (numbered_some x c.args.tag (give_number c.args.bytes.now) c.in_ok-lane.lane 9 c.in_ok-lane.ensures.0 (λ d s. give-open (cfg x) _ d s c.args.bytes.now true c.if-c.false (sym c.is_beyond.ensures ∙ c.if-is_beyond.true)), refl)

pub returns : goal.returns
returns c = let x = c.args.self.now in record {
  number = numbered_some x c.args.tag (give_number c.args.bytes.now) c.in_ok-lane.lane 0 c.in_ok-lane.ensures.0 (λ d s. give-open (cfg x) _ d s c.args.bytes.now false c.if-c.false (sym c.is_beyond.ensures ∙ c.if-is_beyond.false));
  steps = steps_some x _ c.in_ok-lane.lane (beside_lane c.in_ok-lane.lane x _ refl refl _ refl) c.args.tag (λ o. Gives o c.args.tag (take c.give-n.result.1 c.args.bytes.now)) (gives (take c.give-n.result.1 c.args.bytes.now)) (λ o w. refl)
      c.give-n.result.0 refl refl c.in_ok-lane.ensures.0 (λ z. acts_in c.in_ok-lane.lane c.in_ok-lane.ensures.1 x z _ c.give-n.result.0 _ (c.give-n.ensures.acts (cfg x) _ _));
  count = λ e s d h. give-count (cfg x) _ d (found_as x e s c.args.tag c.in_ok-lane.lane c.in_ok-lane.ensures.0 d h) c.args.bytes.now c.give-n.result.1 c.if-c.false c.give-n.ensures.count;
}
