-- `count_of` meets its contract. Assumes nothing.
use Rattle.std.proofs.Common.{arith}
use Rattle.std.proofs.lemmas.Grind.{common_steps}
use Rattle.wire.specs.Choice.{when◌then◌else◌}
use Rattle.cases.specs.Cases.{counted}
use Rattle.cases.proofs.count_of.Goals as goal

pub returns-in_default : goal.returns-in_default
unfolding counted when◌then◌else◌
returns-in_default c = grind (arith, common_steps)

pub returns-in_default-2 : goal.returns-in_default-2
unfolding counted when◌then◌else◌
returns-in_default-2 c = grind (arith, common_steps)

pub returns-in_default-3 : goal.returns-in_default-3
unfolding counted when◌then◌else◌
returns-in_default-3 c = grind (arith, common_steps)

pub returns-in-In-eq0 : goal.returns-in-In-eq0
unfolding counted when◌then◌else◌
returns-in-In-eq0 c = grind (arith, common_steps)

pub returns-in-In-eq0-2 : goal.returns-in-In-eq0-2
unfolding counted when◌then◌else◌
returns-in-In-eq0-2 c = grind (arith, common_steps)
