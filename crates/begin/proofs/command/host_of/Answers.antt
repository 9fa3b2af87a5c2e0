-- `host_of` meets its contract. Assumes nothing.
use Rattle.wire.specs.Choice.{when◌then◌else◌}
use Rattle.machine.specs.Begin.{host_of}
use Rattle.begin.proofs.command.host_of.Goals as goal

pub returns-then-header : goal.returns-then-header
unfolding host_of when◌then◌else◌
returns-then-header c = simp c.if-header.true

pub returns-else-header : goal.returns-else-header
unfolding host_of when◌then◌else◌
returns-else-header c = simp c.if-header.false
