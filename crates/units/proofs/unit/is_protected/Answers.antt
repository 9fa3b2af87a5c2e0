-- `is_protected` meets its contract. Assumes nothing.
use mathlib.Core.Path.{refl}
use Rattle.machine.specs.Units.{is_protected}
use Rattle.units.proofs.unit.is_protected.Goals as goal

pub returns : goal.returns
unfolding is_protected
returns c = refl
