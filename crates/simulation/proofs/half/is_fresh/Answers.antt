use Rattle.std.proofs.Common.{not, ◌||◌, sym, ap, ◌∙◌}
use Rattle.std.proofs.lemmas.Bool.{ne_eqb}
use Rattle.hold.specs.World.{is_in}
use Rattle.simulation.proofs.Drawn.{in_any}
use Rattle.simulation.proofs.half.is_fresh.Goals as goal

pub returns-else-tag-eq0 : goal.returns-else-tag-eq0
returns-else-tag-eq0 c = ap not (c.contains.ensures.value ∙ in_any c.args.tag c.args.drawn.now) ∙ sym (ap (λ z. z || not (is_in c.args.tag c.args.drawn.now)) (ne_eqb c.args.tag 0 c.if-tag-eq0.false))
