-- `after_status` meets its contract. Assumes nothing.
use mathlib.Core.Path.{◌≡◌, sym}
use mathlib.Core.Logic.{◌⊎◌, inl, inr}
use Rattle.bot.specs.declared.csw.Status.{Status}
use Rattle.bot.specs.declared.csw.Status.TheVariants.{Passed, Failed}
use Rattle.machine.specs.declared.record.State.{State}
use Rattle.machine.specs.Record.{no_task, moved}
use Rattle.machine.specs.Bulk.{after_status}
use Rattle.state.proofs.progress.after_status.Goals as goal

due_again : (t : Status) (s : State) → (t ≡ Passed) ⊎ (t ≡ Failed) → after_status t s ≡ moved s s.link.haltin s.link.haltout no_task
unfolding after_status
due_again t s (inl h) = simp h
due_again t s (inr h) = simp h

pub returns-in-Passed : goal.returns-in-Passed
returns-in-Passed c = simp (due_again c.args.status c.args.state c.in-Passed.is, sym c.no_task.ensures) c.moved-next.ensures

pub returns-in-PhaseError : goal.returns-in-PhaseError
unfolding after_status
returns-in-PhaseError c = simp (sym c.no_task.ensures, sym c.moved-next.ensures, c.in-PhaseError.is) c.locked_state.ensures
