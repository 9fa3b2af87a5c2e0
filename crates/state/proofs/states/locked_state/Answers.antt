-- `locked_state` meets its contract. Assumes nothing.
use Rattle.machine.specs.Bulk.{locked_state}
use Rattle.state.proofs.states.locked_state.Goals as goal

pub returns : goal.returns
unfolding locked_state
returns c = c.with_halts.ensures
