-- `read_csw` meets its contract. Assumes nothing.
use Rattle.std.proofs.Common.{arith}
use Rattle.std.proofs.lemmas.Grind.{common_steps}
use Rattle.wire.specs.Choice.{when◌then◌else◌, ◌and◌}
use Rattle.bot.specs.Csw.{read_csw}
use Rattle.bot.proofs.csw.read_csw.Goals as goal

pub returns-then-bytes-ne13 : goal.returns-then-bytes-ne13
unfolding read_csw when◌then◌else◌ ◌and◌
returns-then-bytes-ne13 c = grind (arith, common_steps)

pub returns-in_err-status : goal.returns-in_err-status
unfolding read_csw when◌then◌else◌ ◌and◌
returns-in_err-status c = grind (arith, common_steps)

pub returns : goal.returns
unfolding read_csw when◌then◌else◌ ◌and◌
returns c = grind (arith, common_steps)
