-- `begin` meets its contract. Assumes nothing.
use mathlib.Core.Path.{sym, ◌∙◌}
use Rattle.wire.specs.Choice.{when◌then◌else◌}
use Rattle.machine.specs.Begin.{begun_by, begun, begun_unit}
use Rattle.begin.specs.InRange.{begun_in_range}
use Rattle.begin.proofs.command.begin.Goals as goal

pub returns-then-not-is_in_range : goal.returns-then-not-is_in_range
unfolding begun_in_range when◌then◌else◌
returns-then-not-is_in_range c = simp (sym c.is_in_range.ensures ∙ c.if-not-is_in_range.true)

pub returns : goal.returns
unfolding begun_in_range begun begun_by begun_unit when◌then◌else◌
returns c =
    simp (sym c.is_in_range.ensures ∙ c.if-not-is_in_range.false, sym c.host_of.ensures, sym c.has_of.ensures, sym c.case_of-case.ensures, sym c.sensed.ensures, sym c.halts-haltin.ensures, sym c.halts-haltout.ensures, sym c.staged.ensures, c.moved.ensures, c.with_sense.ensures)
