-- `gathered_state` meets its contract. Assumes nothing.
use Rattle.machine.specs.Bulk.{gathered_state}
use Rattle.bulk.proofs.outward.gathered_state.Goals as goal

pub returns : goal.returns
unfolding gathered_state
returns c = c.moved.ensures
