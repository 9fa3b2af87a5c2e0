-- `worth` meets its contract. Assumes nothing.
use Rattle.wire.specs.Choice.{when◌then◌else◌}
use Rattle.crecord.specs.Flat.{worth}
use Rattle.crecord.proofs.encode.worth.Goals as goal

pub returns-then-on : goal.returns-then-on
unfolding worth when◌then◌else◌
returns-then-on c = simp c.if-on.true

pub returns-else-on : goal.returns-else-on
unfolding worth when◌then◌else◌
returns-else-on c = simp c.if-on.false
