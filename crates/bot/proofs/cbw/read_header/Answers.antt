-- `read_header` meets its contract. Assumes nothing.
use Rattle.std.proofs.Common.{arith}
use Rattle.std.proofs.lemmas.Grind.{common_steps}
use lib.Dec.{lit≤}
use lib.ListN.{get_or}
use Rattle.wire.specs.Bits.{clear}
use Rattle.wire.specs.Choice.{when◌then◌else◌}
use Rattle.wire.proofs.Masks.{top_bits, low_bits}
use Rattle.bot.specs.Cbw.{header_of, read_header}
use Rattle.bot.proofs.Wrappers.{readable_long}
use Rattle.bot.proofs.cbw.read_header.Goals as goal

pub returns-then-not-is_readable : goal.returns-then-not-is_readable
unfolding read_header when◌then◌else◌
returns-then-not-is_readable c = grind (arith, common_steps)

pub bounds-bytes-12 : goal.bounds-bytes-12
bounds-bytes-12 c = grind (arith, common_steps, readable_long)

pub bounds-bytes-13 : goal.bounds-bytes-13
bounds-bytes-13 c = grind (arith, common_steps, readable_long)

pub bounds-bytes-14 : goal.bounds-bytes-14
bounds-bytes-14 c = grind (arith, common_steps, readable_long)

pub returns : goal.returns
unfolding read_header header_of clear when◌then◌else◌
returns c =
    let p = c.args.bytes.now in
    let top = top_bits 7 7 (get_or p 12 0) (lit≤ tt) (c.type_inv.bytes 12).fits in
    let unit = low_bits 3 (get_or p 13 0) in
    let size = low_bits 4 (get_or p 14 0) in
    grind (arith, common_steps)
