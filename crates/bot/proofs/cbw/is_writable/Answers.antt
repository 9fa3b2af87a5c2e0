-- `is_writable` meets its contract. Assumes nothing.
use Rattle.std.proofs.Common.{arith}
use Rattle.std.proofs.lemmas.Grind.{common_steps}
use Rattle.wire.specs.Choice.{◌and◌}
use Rattle.bot.specs.Cbw.{writable}
use Rattle.bot.proofs.cbw.is_writable.Goals as goal

pub returns-then-header-le15 : goal.returns-then-header-le15
unfolding writable ◌and◌
returns-then-header-le15 c = grind (arith, common_steps)

pub returns-else-header-le15 : goal.returns-else-header-le15
unfolding writable ◌and◌
returns-else-header-le15 c = grind (arith, common_steps)
