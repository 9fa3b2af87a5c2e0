-- `make` meets its contract. Assumes nothing.
use mathlib.Core.Path.{sym, ◌∙◌}
use Rattle.wire.specs.Choice.{when◌then◌else◌}
use Rattle.machine.specs.Units.{medium_fits}
use Rattle.machine.specs.Making.{make}
use Rattle.collector.proofs.making.make.Goals as goal

pub returns-then-not-laid_out : goal.returns-then-not-laid_out
unfolding make medium_fits when◌then◌else◌
returns-then-not-laid_out c = simp (sym c.laid_out.ensures ∙ c.if-not-laid_out.true)

pub returns-then-not-medium_fits : goal.returns-then-not-medium_fits
unfolding make medium_fits when◌then◌else◌
returns-then-not-medium_fits c = simp (sym c.laid_out.ensures ∙ c.if-not-laid_out.false, sym c.medium_fits.ensures ∙ c.if-not-medium_fits.true)

pub returns-then-not-number_fits : goal.returns-then-not-number_fits
unfolding make medium_fits when◌then◌else◌
returns-then-not-number_fits c = simp (sym c.laid_out.ensures ∙ c.if-not-laid_out.false, sym c.medium_fits.ensures ∙ c.if-not-medium_fits.false, sym c.number_fits.ensures ∙ c.if-not-number_fits.true)

pub returns : goal.returns
unfolding make medium_fits when◌then◌else◌
returns c = simp (sym c.laid_out.ensures ∙ c.if-not-laid_out.false, sym c.medium_fits.ensures ∙ c.if-not-medium_fits.false, sym c.number_fits.ensures ∙ c.if-not-number_fits.false, c.fresh.ensures, c.make_unused.ensures)
