-- `same_way` meets its contract. Assumes nothing.
use Rattle.std.proofs.Common.{arith}
use Rattle.std.proofs.lemmas.Grind.{common_steps}
use Rattle.wire.specs.Choice.{when◌then◌else◌}
use Rattle.cases.specs.Cases.{same_way}
use Rattle.cases.proofs.same_way.Goals as goal

pub returns-in-Less : goal.returns-in-Less
unfolding same_way when◌then◌else◌
returns-in-Less c = grind (arith, common_steps)

pub returns-in-Equal : goal.returns-in-Equal
unfolding same_way when◌then◌else◌
returns-in-Equal c = grind (arith, common_steps)

pub returns-in-Greater : goal.returns-in-Greater
unfolding same_way when◌then◌else◌
returns-in-Greater c = grind (arith, common_steps)
