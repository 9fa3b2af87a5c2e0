-- `reply` meets its contract. Assumes nothing.
use mathlib.Core.Path.{sym}
use Rattle.scsi.proofs.command.reply.Goals as goal

pub returns : goal.returns
returns c = simp (sym c.byte.ensures, c.cut.ensures)
