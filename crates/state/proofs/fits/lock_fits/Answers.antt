-- `lock_fits` meets its contract. Assumes nothing.
use borrow.Author.Tests.{not-true, not-false}
use Rattle.wire.specs.Choice.{when◌then◌else◌, ◌and◌}
use Rattle.machine.specs.Fits.{lock_fits}
use Rattle.state.proofs.fits.lock_fits.Goals as goal

pub returns-then-not-link : goal.returns-then-not-link
unfolding lock_fits when◌then◌else◌
returns-then-not-link c = simp (not-true c.args.link.locked c.if-not-link.true)

pub returns-then-link : goal.returns-then-link
unfolding lock_fits when◌then◌else◌ ◌and◌
returns-then-link c = simp (not-false c.args.link.locked c.if-not-link.false, c.if-link.true)

pub returns-else-link : goal.returns-else-link
unfolding lock_fits when◌then◌else◌ ◌and◌
returns-else-link c = simp (not-false c.args.link.locked c.if-not-link.false, c.if-link.false)
