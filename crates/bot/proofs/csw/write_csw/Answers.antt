-- `write_csw` meets its contract. Assumes nothing.
use Rattle.std.proofs.Common.{arith}
use Rattle.std.proofs.lemmas.Grind.{common_steps}
use Rattle.wire.specs.Choice.{when◌then◌else◌}
use Rattle.wire.specs.Slices.{placed}
use Rattle.bot.specs.Csw.{write_csw}
use Rattle.bot.proofs.csw.write_csw.Goals as goal

pub returns-then-put : goal.returns-then-put
unfolding write_csw when◌then◌else◌
returns-then-put c = grind (arith, common_steps)

pub returns-else-put : goal.returns-else-put
unfolding write_csw placed when◌then◌else◌
returns-else-put c = grind (arith, common_steps)
