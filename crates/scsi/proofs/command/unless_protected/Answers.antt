-- `unless_protected` meets its contract. Assumes nothing.
use Rattle.wire.specs.Choice.{when◌then◌else◌}
use Rattle.scsi.specs.Command.{unless_protected}
use Rattle.scsi.proofs.command.unless_protected.Goals as goal

pub returns-then-protected : goal.returns-then-protected
unfolding unless_protected when◌then◌else◌
returns-then-protected c = simp c.if-protected.true

pub returns-else-protected : goal.returns-else-protected
unfolding unless_protected when◌then◌else◌
returns-else-protected c = simp c.if-protected.false
