-- `request_sense` meets its contract. Assumes nothing.
use mathlib.Core.Path.{sym, ◌∙◌}
use lib.Dec.{lit≤}
use borrow.Author.Tests.{eq-eqb, ne_eqb}
use Rattle.wire.specs.Choice.{when◌then◌else◌}
use Rattle.wire.proofs.Masks.{mask}
use Rattle.scsi.specs.Command.{plan_by}
use Rattle.scsi.proofs.command.request_sense.Goals as goal

pub returns-then-byte-ne0 : goal.returns-then-byte-ne0
unfolding plan_by when◌then◌else◌
returns-then-byte-ne0 c = λ n p. simp (sym c.byte.ensures, mask 0 0 c.byte.result (lit≤ tt) ∙ ne_eqb _ _ c.if-byte-ne0.true)

pub returns-else-byte-ne0 : goal.returns-else-byte-ne0
unfolding plan_by when◌then◌else◌
returns-else-byte-ne0 c = λ n p. simp (sym c.byte.ensures, mask 0 0 c.byte.result (lit≤ tt) ∙ eq-eqb _ _ c.if-byte-ne0.false, c.reply.ensures)
