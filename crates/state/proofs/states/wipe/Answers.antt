-- `wipe` meets its contract. Assumes nothing.
use mathlib.Core.Path.{refl}
use Rattle.wire.specs.Slices.{zeros}
use Rattle.state.proofs.states.wipe.Goals as goal

pub returns : goal.returns
unfolding zeros
returns c = refl
