-- `read10` meets its contract. Assumes nothing.
use mathlib.Core.Path.{sym}
use Rattle.scsi.specs.Command.{plan_by, ranged_of}
use Rattle.scsi.proofs.command.read10.Goals as goal

pub returns : goal.returns
unfolding plan_by ranged_of
returns c = λ p. simp (sym c.be32.ensures, sym c.be16.ensures) c.ranged.ensures
