-- `fresh` meets its contract. Assumes nothing.
use Rattle.wire.specs.Slices.{zeros}
use Rattle.machine.specs.Record.{fresh, dropped_state}
use Rattle.collector.proofs.making.fresh.Goals as goal

pub returns : goal.returns
unfolding fresh zeros dropped_state
returns c = simp c.dropped_state.ensures
