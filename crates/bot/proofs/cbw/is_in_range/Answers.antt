-- `is_in_range` meets its contract. Assumes nothing.
use Rattle.std.proofs.Common.{arith}
use Rattle.std.proofs.lemmas.Grind.{common_steps}
use lib.Dec.{lit≤}
use Rattle.wire.specs.Choice.{◌and◌}
use Rattle.wire.proofs.Masks.{mask}
use Rattle.bot.specs.Cbw.{in_range}
use Rattle.bot.proofs.cbw.is_in_range.Goals as goal

pub returns-then-size-eq0 : goal.returns-then-size-eq0
unfolding in_range ◌and◌
returns-then-size-eq0 c =
    let flags = mask 0 6 c.args.flags (lit≤ tt) in
    let lun = mask 4 7 c.args.lun (lit≤ tt) in
    let size = mask 5 7 c.args.size (lit≤ tt) in
    grind (arith, common_steps)

pub returns-else-size-eq0 : goal.returns-else-size-eq0
unfolding in_range ◌and◌
returns-else-size-eq0 c =
    let flags = mask 0 6 c.args.flags (lit≤ tt) in
    let lun = mask 4 7 c.args.lun (lit≤ tt) in
    let size = mask 5 7 c.args.size (lit≤ tt) in
    grind (arith, common_steps)
