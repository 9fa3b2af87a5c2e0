-- `verify10` meets its contract. Assumes nothing.
use mathlib.Core.Path.{sym, ◌∙◌}
use lib.Dec.{lit≤}
use borrow.Author.Tests.{eq-eqb, ne_eqb}
use Rattle.wire.specs.Choice.{when◌then◌else◌, ◌and◌}
use Rattle.wire.proofs.Masks.{mask}
use Rattle.scsi.specs.Command.{plan_by, ranged_of}
use Rattle.scsi.proofs.command.verify10.Goals as goal

pub returns-then-byte-ne0 : goal.returns-then-byte-ne0
unfolding plan_by when◌then◌else◌ ◌and◌
returns-then-byte-ne0 c = λ p. simp (sym c.byte.ensures, mask 1 1 c.byte.result (lit≤ tt) ∙ ne_eqb _ _ c.if-byte-ne0.true)

pub returns-else-byte-ne0 : goal.returns-else-byte-ne0
unfolding plan_by ranged_of when◌then◌else◌ ◌and◌
returns-else-byte-ne0 c = λ p. simp (c.ranged.ensures, sym c.byte.ensures, mask 1 1 c.byte.result (lit≤ tt) ∙ eq-eqb _ _ c.if-byte-ne0.false)
