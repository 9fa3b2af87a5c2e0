-- `size_fits` meets its contract. Assumes nothing.
use borrow.Author.Tests.{le-leb, lt-leb}
use Rattle.wire.specs.Choice.{◌and◌}
use Rattle.machine.specs.Units.{size_fits}
use Rattle.units.proofs.unit.size_fits.Goals as goal

pub returns-then-blocks-ge1 : goal.returns-then-blocks-ge1
unfolding size_fits ◌and◌
returns-then-blocks-ge1 c = simp (le-leb 1 _ c.if-blocks-ge1.true)

pub returns-else-blocks-ge1 : goal.returns-else-blocks-ge1
unfolding size_fits ◌and◌
returns-else-blocks-ge1 c = simp (lt-leb 1 _ c.if-blocks-ge1.false)
