-- `ended` meets its contract. Assumes nothing.
use Rattle.cevents.specs.Ways.{moved_on, ended}
use Rattle.cevents.proofs.packets.ended.Goals as goal

pub returns : goal.returns
unfolding ended moved_on
returns c = simp c.moved_on.ensures
