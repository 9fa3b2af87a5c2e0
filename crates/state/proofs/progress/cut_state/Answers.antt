-- `cut_state` meets its contract. Assumes nothing.
use Rattle.machine.specs.Bulk.{cut_state}
use Rattle.state.proofs.progress.cut_state.Goals as goal

pub returns : goal.returns
unfolding cut_state
returns c = c.moved.ensures
