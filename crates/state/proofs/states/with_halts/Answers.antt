-- `with_halts` meets its contract. Assumes nothing.
use mathlib.Core.Path.{refl}
use Rattle.machine.specs.Record.{with_halts}
use Rattle.state.proofs.states.with_halts.Goals as goal

pub returns : goal.returns
unfolding with_halts
returns c = refl
