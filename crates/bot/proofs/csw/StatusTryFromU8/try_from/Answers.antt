-- `try_from` meets its contract. Assumes nothing.
use Rattle.std.proofs.Common.{arith}
use Rattle.std.proofs.lemmas.Grind.{common_steps}
use Rattle.wire.specs.Choice.{look, when◌then◌else◌}
use Rattle.bot.specs.Csw.{statuses, status_of}
use Rattle.bot.proofs.csw.StatusTryFromU8.try_from.Goals as goal

pub returns-in-0 : goal.returns-in-0
unfolding status_of statuses look when◌then◌else◌
returns-in-0 c = simp c.in-0.is

pub returns-in-1 : goal.returns-in-1
unfolding status_of statuses look when◌then◌else◌
returns-in-1 c = simp c.in-1.is

pub returns-in-2 : goal.returns-in-2
unfolding status_of statuses look when◌then◌else◌
returns-in-2 c = simp c.in-2.is

pub returns-in_default : goal.returns-in_default
unfolding status_of statuses look when◌then◌else◌
returns-in_default c = grind (arith, common_steps)
