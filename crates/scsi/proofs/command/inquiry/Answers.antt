-- `inquiry` meets its contract. Assumes nothing.
use mathlib.Core.Path.{sym, ◌∙◌}
use lib.Dec.{lit≤}
use borrow.Author.Tests.{eq-eqb, ne_eqb}
use Rattle.wire.specs.Choice.{when◌then◌else◌}
use Rattle.wire.proofs.Masks.{mask}
use Rattle.scsi.specs.Command.{plan_by, inquired}
use Rattle.scsi.proofs.command.inquiry.Goals as goal

pub returns-then-evpd : goal.returns-then-evpd
unfolding plan_by inquired when◌then◌else◌
returns-then-evpd c = λ n p.
    simp (
      sym c.byte.ensures,
      mask 0 0 c.byte.result (lit≤ tt) ∙ ne_eqb _ _ c.if-evpd.true,
      sym c.byte-code.ensures,
      sym c.be16-allocated.ensures,
      c.page.ensures,
    )

pub returns-else-code-eq0 : goal.returns-else-code-eq0
unfolding plan_by inquired when◌then◌else◌
returns-else-code-eq0 c = λ n p.
    simp (
      sym c.byte.ensures,
      mask 0 0 c.byte.result (lit≤ tt) ∙ eq-eqb _ _ c.if-evpd.false,
      sym c.byte-code.ensures,
      ne_eqb _ _ c.if-code-eq0.false,
    )

pub returns-then-code-eq0 : goal.returns-then-code-eq0
unfolding plan_by inquired when◌then◌else◌
returns-then-code-eq0 c = λ n p.
    simp (
      sym c.byte.ensures,
      mask 0 0 c.byte.result (lit≤ tt) ∙ eq-eqb _ _ c.if-evpd.false,
      sym c.byte-code.ensures,
      eq-eqb _ _ c.if-code-eq0.true,
      sym c.be16-allocated.ensures,
      c.cut.ensures,
    )
