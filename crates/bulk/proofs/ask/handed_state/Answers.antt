-- `handed_state` meets its contract. Assumes nothing.
use Rattle.machine.specs.Bulk.{handed_state}
use mathlib.Core.Path.{sym}
use Rattle.bulk.proofs.ask.handed_state.Goals as goal

pub returns : goal.returns
unfolding handed_state
returns c = simp (sym c.halt_at_end-haltin.ensures, sym c.next_in.ensures) c.moved.ensures
