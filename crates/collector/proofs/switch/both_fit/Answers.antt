-- `both_fit` meets its contract. Assumes nothing.
use mathlib.Core.Path.{sym, ◌∙◌}
use Rattle.wire.specs.Choice.{◌and◌}
use Rattle.collector.proofs.switch.both_fit.Goals as goal

pub returns-then-fits : goal.returns-then-fits
unfolding ◌and◌
returns-then-fits c = simp (sym c.fits.ensures ∙ c.if-fits.true) c.switch_fits.ensures

pub returns-else-fits : goal.returns-else-fits
unfolding ◌and◌
returns-else-fits c = simp (sym c.fits.ensures ∙ c.if-fits.false) c.if-fits.false
