-- `fixed_format` meets its contract. Assumes nothing.
use Rattle.wire.specs.Choice.{when◌then◌else◌}
use Rattle.wire.specs.Numbers.{low}
use Rattle.wire.specs.Slices.{zeros, fits, placed}
use Rattle.scsi.specs.Reply.{fixed_format}
use Rattle.scsi.proofs.reply.fixed_format.Goals as goal

pub returns : goal.returns
unfolding fixed_format placed fits when◌then◌else◌ zeros low
returns c = simp c.put_be32.ensures.1
