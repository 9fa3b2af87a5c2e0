-- `same` meets its contract. Assumes nothing.
use mathlib.Core.Path.{◌∙◌}
use Rattle.wire.proofs.Library.{same_is}
use Rattle.wire.proofs.slices.same.Goals as goal

pub returns : goal.returns
returns c = c.eq.ensures ∙ same_is _ _
