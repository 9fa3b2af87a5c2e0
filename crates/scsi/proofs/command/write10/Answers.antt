-- `write10` meets its contract. Assumes nothing.
use mathlib.Core.Path.{sym}
use Rattle.scsi.specs.Command.{plan_by, ranged_of}
use Rattle.scsi.proofs.command.write10.Goals as goal

pub returns : goal.returns
unfolding plan_by ranged_of
returns c = simp (sym c.be32.ensures, sym c.be16.ensures, sym c.unless_protected.ensures) c.ranged.ensures
