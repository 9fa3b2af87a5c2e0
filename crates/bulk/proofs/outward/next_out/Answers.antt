-- `next_out` meets its contract. Assumes nothing.
use borrow.Author.Tests.{le-leb, lt-leb}
use Rattle.wire.specs.Choice.{when◌then◌else◌}
use Rattle.machine.specs.Bulk.{next_out}
use Rattle.bulk.proofs.outward.next_out.Goals as goal

pub returns-then-left-le1 : goal.returns-then-left-le1
unfolding next_out when◌then◌else◌
returns-then-left-le1 c = simp (le-leb _ _ c.if-left-le1.true)

pub returns : goal.returns
unfolding next_out when◌then◌else◌
returns c = simp (lt-leb _ _ c.if-left-le1.false)
