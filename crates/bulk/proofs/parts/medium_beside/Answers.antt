-- `medium_beside` meets its contract. Assumes nothing.
use mathlib.Core.Path.{refl}
use Rattle.wire.specs.Choice.{◌and◌}
use Rattle.bulk.proofs.parts.medium_beside.Goals as goal

pub returns-then-fits : goal.returns-then-fits
unfolding ◌and◌
returns-then-fits c = simp c.if-fits.true c.medium_fits.ensures

pub returns-else-fits : goal.returns-else-fits
unfolding ◌and◌
returns-else-fits c = simp c.if-fits.false refl
