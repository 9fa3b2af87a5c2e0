-- `moved_on` meets its contract. Assumes nothing.
use mathlib.Core.Path.{refl}
use Rattle.cevents.specs.Ways.{moved_on}
use Rattle.cevents.proofs.packets.moved_on.Goals as goal

pub returns : goal.returns
unfolding moved_on
returns c = refl
