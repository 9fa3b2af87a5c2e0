-- `with_address` meets its contract. Assumes nothing.
use mathlib.Core.Path.{refl}
use Rattle.machine.specs.Record.{with_address}
use Rattle.state.proofs.states.with_address.Goals as goal

pub returns : goal.returns
unfolding with_address
returns c = refl
