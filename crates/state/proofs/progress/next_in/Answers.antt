-- `next_in` meets its contract. Assumes nothing.
use Rattle.machine.specs.Bulk.{next_in}
use borrow.Author.Tests.{le-leb, lt-leb}
use Rattle.wire.specs.Choice.{when◌then◌else◌}
use Rattle.state.proofs.progress.next_in.Goals as goal

pub returns-then-left-le64 : goal.returns-then-left-le64
unfolding next_in when◌then◌else◌
returns-then-left-le64 c = simp (le-leb _ _ c.if-left-le64.true)

pub returns : goal.returns
unfolding next_in when◌then◌else◌
returns c = simp (lt-leb _ _ c.if-left-le64.false)
