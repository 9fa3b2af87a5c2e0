-- `on_wrapper` meets its contract. Assumes nothing.
use mathlib.Core.Path.{sym, ap, ◌∙◌}
use Rattle.machine.specs.Units.{with_sense}
use Rattle.machine.specs.Begin.{begun_unit}
use Rattle.machine.specs.Bulk.{on_wrapper}
use Rattle.begin.specs.InRange.{begun_in_range}
use Rattle.begin.proofs.Accepting.{wrapper_begins}
use Rattle.bulk.proofs.outward.on_wrapper.Goals as goal

pub returns-in_default : goal.returns-in_default
unfolding on_wrapper
returns-in_default c =
    λ i p m. simp (sym c.read_wrapper.ensures, c.in_default.is, c.locked_state.ensures)

pub returns : goal.returns
unfolding on_wrapper begun_unit with_sense
returns c =
    let e = sym c.read_wrapper.ensures ∙ c.in-Some.is in
    let b = wrapper_begins _ _ _ _ _ c.requires e in
    λ i p m. simp (e, c.set_sense.ensures, c.begin-begun.ensures ∙ ap (begun_in_range _ _ _) c.unit_at.ensures ∙ b)
