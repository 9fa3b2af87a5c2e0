-- `mode_sense` meets its contract. Assumes nothing.
use mathlib.Core.Path.{sym}
use borrow.Author.Tests.{eq-eqb, ne_eqb}
use Rattle.wire.specs.Choice.{when◌then◌else◌}
use Rattle.scsi.specs.Command.{plan_by}
use Rattle.scsi.proofs.command.mode_sense.Goals as goal

pub returns-else-byte-eq63 : goal.returns-else-byte-eq63
unfolding plan_by when◌then◌else◌
returns-else-byte-eq63 c = λ n p. simp (sym c.byte.ensures, ne_eqb _ _ c.if-byte-eq63.false)

pub returns-then-byte-eq63 : goal.returns-then-byte-eq63
unfolding plan_by when◌then◌else◌
returns-then-byte-eq63 c = λ n p. simp (sym c.byte.ensures, eq-eqb _ _ c.if-byte-eq63.true, c.reply.ensures)
