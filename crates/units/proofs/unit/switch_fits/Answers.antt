-- `switch_fits` meets its contract. Assumes nothing.
use mathlib.Core.Path.{refl}
use Rattle.machine.specs.Units.{switch_fits}
use Rattle.units.proofs.unit.switch_fits.Goals as goal

pub returns : goal.returns
unfolding switch_fits
returns c = refl
