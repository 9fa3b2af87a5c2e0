-- `mode_data` meets its contract. Assumes nothing.
use Rattle.wire.specs.Choice.{when◌then◌else◌}
use Rattle.scsi.specs.Reply.{mode_data}
use Rattle.scsi.proofs.reply.mode_data.Goals as goal

pub returns-then-protected : goal.returns-then-protected
unfolding mode_data when◌then◌else◌
returns-then-protected c = simp c.if-protected.true

pub returns-else-protected : goal.returns-else-protected
unfolding mode_data when◌then◌else◌
returns-else-protected c = simp c.if-protected.false
