-- `fits_reply` meets its contract. Assumes nothing.
use mathlib.Core.Path.{sym, ◌∙◌}
use Rattle.wire.specs.Choice.{◌and◌}
use Rattle.bulk.proofs.show.fits_reply.Goals as goal

pub returns-then-fits : goal.returns-then-fits
unfolding ◌and◌
returns-then-fits c = simp (sym c.fits.ensures ∙ c.if-fits.true) c.is_reply.ensures

pub returns-else-fits : goal.returns-else-fits
unfolding ◌and◌
returns-else-fits c = simp (sym c.fits.ensures ∙ c.if-fits.false) c.if-fits.false
