-- `write_cbw` meets its contract. Assumes nothing.
use Rattle.std.proofs.Common.{arith}
use Rattle.std.proofs.lemmas.Grind.{common_steps}
use Rattle.wire.specs.Choice.{when◌then◌else◌, ◌and◌}
use Rattle.wire.specs.Slices.{placed}
use Rattle.bot.specs.Cbw.{write_cbw}
use Rattle.bot.proofs.cbw.write_cbw.Goals as goal

pub returns-then-put : goal.returns-then-put
unfolding write_cbw when◌then◌else◌ ◌and◌
returns-then-put c = grind (arith, common_steps)

pub returns-else-is_writable : goal.returns-else-is_writable
unfolding write_cbw placed when◌then◌else◌ ◌and◌
returns-else-is_writable c = grind (arith, common_steps)
