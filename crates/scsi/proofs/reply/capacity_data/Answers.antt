-- `capacity_data` meets its contract. Assumes nothing.
use Rattle.wire.specs.Choice.{when◌then◌else◌}
use Rattle.wire.specs.Numbers.{low}
use Rattle.wire.specs.Slices.{fits, placed}
use Rattle.scsi.specs.Reply.{capacity_data}
use Rattle.scsi.proofs.reply.capacity_data.Goals as goal

pub returns : goal.returns
unfolding capacity_data placed fits when◌then◌else◌ low
returns c = simp (c.put_be32-2.ensures.1, c.put_be32.ensures.1, c.last_block.ensures)
