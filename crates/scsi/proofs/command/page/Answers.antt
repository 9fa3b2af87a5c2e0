-- `page` meets its contract. Assumes nothing.
use mathlib.Core.Path.{sym}
use Rattle.scsi.specs.Command.{paged}
use Rattle.scsi.proofs.command.page.Goals as goal

pub returns-in-Some : goal.returns-in-Some
unfolding paged
returns-in-Some c = simp (sym c.page_of.ensures, c.in-Some.is) c.cut.ensures

pub returns-in-None : goal.returns-in-None
unfolding paged
returns-in-None c = simp (sym c.page_of.ensures, c.in-None.is)
