-- `moved` meets its contract. Assumes nothing.
use mathlib.Core.Path.{refl}
use Rattle.machine.specs.Record.{moved}
use Rattle.state.proofs.states.moved.Goals as goal

pub returns : goal.returns
unfolding moved
returns c = refl
