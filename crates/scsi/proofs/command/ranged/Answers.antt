-- `ranged` meets its contract. Assumes nothing.
use mathlib.Core.Path.{sym, ◌∙◌}
use lib.Dec.{lit≤}
use borrow.Author.Tests.{eq-eqb, ne_eqb, le-leb, lt-leb}
use Rattle.wire.specs.Choice.{when◌then◌else◌}
use Rattle.wire.proofs.Masks.{mask}
use Rattle.scsi.specs.Command.{ranged_of, within}
use Rattle.scsi.proofs.command.ranged.Goals as goal

pub returns-then-byte-ne0 : goal.returns-then-byte-ne0
unfolding ranged_of when◌then◌else◌
returns-then-byte-ne0 c = simp (sym c.byte.ensures, mask 5 7 c.byte.result (lit≤ tt) ∙ ne_eqb _ _ c.if-byte-ne0.true)

pub returns-then-blocks-first : goal.returns-then-blocks-first
unfolding ranged_of within when◌then◌else◌
returns-then-blocks-first c =
    simp (
      sym c.byte.ensures,
      mask 5 7 c.byte.result (lit≤ tt) ∙ eq-eqb _ _ c.if-byte-ne0.false,
      sym c.be32-first.ensures,
      sym c.be16-count.ensures,
      lt-leb _ _ c.if-blocks-first.true,
      c.out_of_range.ensures,
      c.first_outside.ensures,
    )

pub returns-else-blocks-first : goal.returns-else-blocks-first
unfolding ranged_of within when◌then◌else◌
returns-else-blocks-first c =
    simp (
      sym c.byte.ensures,
      mask 5 7 c.byte.result (lit≤ tt) ∙ eq-eqb _ _ c.if-byte-ne0.false,
      sym c.be32-first.ensures,
      sym c.be16-count.ensures,
      le-leb _ _ c.if-blocks-first.false,
    )
