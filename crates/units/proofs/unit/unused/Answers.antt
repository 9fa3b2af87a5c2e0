-- `unused` meets its contract. Assumes nothing.
use mathlib.Core.Path.{ap, ◌∙◌}
use Rattle.machine.specs.Units.{with_sense, with_switch}
use Rattle.units.proofs.unit.unused.Goals as goal

pub returns : goal.returns
unfolding with_sense with_switch
returns c = c.with_switch.ensures ∙ ap (λ u. with_switch u 0) c.with_sense.ensures
