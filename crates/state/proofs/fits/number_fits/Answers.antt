-- `number_fits` meets its contract. Assumes nothing.
use mathlib.Core.Path.{refl}
use Rattle.machine.specs.Fits.{number_fits}
use Rattle.state.proofs.fits.number_fits.Goals as goal

pub returns : goal.returns
unfolding number_fits
returns c = refl
