-- `is_readable` meets its contract. Assumes nothing.
use Rattle.std.proofs.Common.{arith}
use Rattle.std.proofs.lemmas.Grind.{common_steps}
use Rattle.wire.specs.Choice.{◌and◌}
use Rattle.bot.specs.Cbw.{readable}
use Rattle.bot.proofs.cbw.is_readable.Goals as goal

pub returns-then-starts_with : goal.returns-then-starts_with
unfolding readable ◌and◌
returns-then-starts_with c = grind (arith, common_steps)

pub returns-else-starts_with : goal.returns-else-starts_with
unfolding readable ◌and◌
returns-else-starts_with c = grind (arith, common_steps)
