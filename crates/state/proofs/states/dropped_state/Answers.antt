-- `dropped_state` meets its contract. Assumes nothing.
use Rattle.machine.specs.Record.{dropped_state}
use Rattle.state.proofs.states.dropped_state.Goals as goal

pub returns : goal.returns
unfolding dropped_state
returns c = simp c.no_task.ensures
