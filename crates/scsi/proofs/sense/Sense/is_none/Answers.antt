-- `is_none` meets its contract. Assumes nothing.
use mathlib.Core.Path.{◌≡◌, refl}
use mathlib.Core.Bool.{Bool, true, false, ◌&&◌}
use Rattle.wire.specs.Choice.{◌and◌}
use Rattle.scsi.specs.Sense.{is_no_sense}
use Rattle.scsi.proofs.sense.Sense.is_none.Goals as goal

-- the library's conjunction is the specification's
as_and : (a b : Bool) → (a && b) ≡ (a and b)
unfolding ◌and◌
as_and true b = refl
as_and false b = refl

pub returns : goal.returns
unfolding is_no_sense
returns c = simp as_and at c.eq.ensures
