-- `halt` meets its contract. Assumes nothing.
use Rattle.wire.specs.Choice.{when◌then◌else◌}
use Rattle.control.proofs.halts.halt.Goals as goal

pub returns-then-locked : goal.returns-then-locked
unfolding when◌then◌else◌
returns-then-locked c = simp c.if-locked.true

pub returns-else-locked : goal.returns-else-locked
unfolding when◌then◌else◌
returns-else-locked c = simp c.if-locked.false
