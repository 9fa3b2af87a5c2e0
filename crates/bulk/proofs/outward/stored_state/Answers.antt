-- `stored_state` meets its contract. Assumes nothing.
use Rattle.machine.specs.Bulk.{stored_state}
use mathlib.Core.Path.{sym}
use Rattle.bulk.proofs.outward.stored_state.Goals as goal

pub returns : goal.returns
unfolding stored_state
returns c = simp (sym c.halt_at_end-haltout.ensures, sym c.next_out.ensures) c.moved.ensures
