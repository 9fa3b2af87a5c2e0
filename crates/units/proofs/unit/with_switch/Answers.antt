-- `with_switch` meets its contract. Assumes nothing.
use mathlib.Core.Path.{refl}
use Rattle.machine.specs.Units.{with_switch}
use Rattle.units.proofs.unit.with_switch.Goals as goal

pub returns : goal.returns
unfolding with_switch
returns c = refl
