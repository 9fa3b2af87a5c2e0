-- `task_fits` meets its contract. Assumes nothing.
use mathlib.Core.Path.{sym}
use borrow.Author.Tests.{lt-ltb, le-ltb}
use Rattle.wire.specs.Choice.{◌and◌}
use Rattle.machine.specs.Fits.{task_fits, stage_fits}
use Rattle.state.proofs.fits.task_fits.Goals as goal

pub returns-then-units-task : goal.returns-then-units-task
unfolding task_fits stage_fits ◌and◌
returns-then-units-task c = simp (le-ltb _ _ c.if-units-task.true)

pub returns-in-Ready : goal.returns-in-Ready
unfolding task_fits stage_fits ◌and◌
returns-in-Ready c = simp (lt-ltb _ _ c.if-units-task.false, c.in-Ready.is)

pub returns-in-DataOut : goal.returns-in-DataOut
unfolding task_fits stage_fits ◌and◌
returns-in-DataOut c = simp (lt-ltb _ _ c.if-units-task.false, c.in-DataOut.is, sym c.unit_at-blocks.ensures) c.out_fits.ensures

pub returns-in-DataIn : goal.returns-in-DataIn
unfolding task_fits stage_fits ◌and◌
returns-in-DataIn c = simp (lt-ltb _ _ c.if-units-task.false, c.in-DataIn.is, sym c.unit_at-blocks.ensures) c.in_fits.ensures

pub returns-in-ReplyIn : goal.returns-in-ReplyIn
unfolding task_fits stage_fits ◌and◌
returns-in-ReplyIn c = simp (lt-ltb _ _ c.if-units-task.false, c.in-ReplyIn.is, sym c.kind_of.ensures, sym c.reply_size.ensures) c.in_fits-in-ReplyIn.ensures

pub returns-in-StatusDue : goal.returns-in-StatusDue
unfolding task_fits stage_fits ◌and◌
returns-in-StatusDue c = simp (lt-ltb _ _ c.if-units-task.false, c.in-StatusDue.is)
