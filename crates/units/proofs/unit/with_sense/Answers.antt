-- `with_sense` meets its contract. Assumes nothing.
use mathlib.Core.Path.{refl}
use Rattle.machine.specs.Units.{with_sense}
use Rattle.units.proofs.unit.with_sense.Goals as goal

pub returns : goal.returns
unfolding with_sense
returns c = refl
