-- `is_ready` meets its contract. Assumes nothing.
use mathlib.Core.Path.{◌≡◌, refl, sym}
use mathlib.Core.Bool.{false}
use Rattle.machine.specs.declared.record.Stage.{Stage}
use Rattle.machine.specs.declared.record.Stage.TheVariants.{Ready, DataOut, DataIn, ReplyIn, StatusDue}
use Rattle.machine.specs.Fits.{is_ready}
use Rattle.state.proofs.fits.is_ready.Goals as goal

not_ready : (s : Stage) → (s ≡ Ready → ⊥) → is_ready s ≡ false
unfolding is_ready
not_ready Ready n = absurd (n refl)
not_ready (DataOut block left held) n = refl
not_ready (DataIn place left) n = refl
not_ready (ReplyIn reply place left) n = refl
not_ready (StatusDue status) n = refl

pub returns-in-Ready : goal.returns-in-Ready
unfolding is_ready
returns-in-Ready c = simp c.in-Ready.is

pub returns-in_default : goal.returns-in_default
returns-in_default c = sym (not_ready _ c.in_default.not-Ready)
