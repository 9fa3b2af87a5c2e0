-- `cut` meets its contract. Assumes nothing.
use Rattle.scsi.specs.Command.{cut}
use Rattle.scsi.proofs.command.cut.Goals as goal

pub returns : goal.returns
unfolding cut
returns c = simp (c.min-size.ensures, c.reply_size.ensures)
