-- `device_descriptor` meets its contract. Assumes nothing.
use Rattle.wire.specs.Choice.{when◌then◌else◌}
use Rattle.wire.specs.Numbers.{low}
use Rattle.wire.specs.Slices.{fits, placed}
use Rattle.usb.specs.Descriptor.{device_descriptor}
use Rattle.usb.proofs.descriptor.device_descriptor.Goals as goal

pub returns : goal.returns
unfolding device_descriptor placed fits when◌then◌else◌ low
returns c =
    simp (c.put_le16-3.ensures.1, c.put_le16-2.ensures.1, c.put_le16.ensures.1)
