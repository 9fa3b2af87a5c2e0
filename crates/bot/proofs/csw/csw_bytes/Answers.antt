-- `csw_bytes` meets its contract. Assumes nothing.
use Rattle.wire.specs.Choice.{when◌then◌else◌}
use Rattle.wire.specs.Numbers.{low}
use Rattle.wire.specs.Slices.{fits, placed}
use Rattle.bot.specs.Csw.{csw_bytes}
use Rattle.bot.proofs.csw.csw_bytes.Goals as goal

pub returns : goal.returns
unfolding csw_bytes placed fits when◌then◌else◌ low
returns c =
    simp (c.code.ensures, c.put_le32-2.ensures.1, c.put_le32.ensures.1, c.put.ensures.1)
