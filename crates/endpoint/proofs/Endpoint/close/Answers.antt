use Rattle.std.proofs.Common.{rules, cond, sym, refl, ap, ◌∙◌}
use Rattle.hold.specs.Conn.{Conn, closes}
use Rattle.hold.specs.World.{Closes, There}
use Rattle.endpoint.specs.Calls.{close_number}
use Rattle.endpoint.specs.Stands.{cfg, lent}
use Rattle.endpoint.proofs.Memory.{beside}
use Rattle.endpoint.proofs.Ends.{numbered_none, numbered_some, steps_some}
use Rattle.endpoint.proofs.Endpoint.close.Goals as goal

pub returns-in_err-lane : goal.returns-in_err-lane
returns-in_err-lane c = let h = numbered_none c.args.self.now c.args.tag close_number c.in_err-lane.ensures.0 in search rules

pub returns-then-c : goal.returns-then-c
returns-then-c c =
    (numbered_some c.args.self.now c.args.tag close_number c.in_ok-lane.lane 6 c.in_ok-lane.ensures.0 (λ d s. ap (λ (k : Conn). close_number (There k)) (sym s.is) ∙ ap (λ b. cond b 6 0) c.if-c.true), refl)

pub returns : goal.returns
returns c = let x = c.args.self.now in (
  numbered_some x c.args.tag close_number c.in_ok-lane.lane 0 c.in_ok-lane.ensures.0 (λ d s. ap (λ (k : Conn). close_number (There k)) (sym s.is) ∙ ap (λ b. cond b 6 0) c.if-c.false),
  steps_some x _ c.in_ok-lane.lane (beside c.in_ok-lane.lane x _ refl refl refl) c.args.tag (λ o. Closes o c.args.tag) closes (λ o w. refl) c.close.result refl refl c.in_ok-lane.ensures.0 (λ _. c.close.ensures (cfg x) (lent x c.in_ok-lane.lane)),
)
