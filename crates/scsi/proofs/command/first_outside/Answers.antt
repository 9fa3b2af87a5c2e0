-- `first_outside` meets its contract. Assumes nothing.
use Rattle.scsi.specs.Command.{first_outside}
use Rattle.scsi.proofs.command.first_outside.Goals as goal

pub returns : goal.returns
unfolding first_outside
returns c = c.max.ensures
