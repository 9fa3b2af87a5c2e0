-- `describe` meets its contract: a value that no arm has is under no row. Assumes nothing.
use Rattle.std.proofs.Common.{arith}
use Rattle.std.proofs.lemmas.Grind.{common_steps}
use Rattle.wire.specs.Choice.{when◌then◌else◌, look}
use Rattle.usb.specs.Request.{descriptors, get_descriptor}
use Rattle.usb.proofs.request.Setup.describe.Goals as goal

pub returns-in_default : goal.returns-in_default
unfolding get_descriptor descriptors look when◌then◌else◌
returns-in_default c = grind (arith, common_steps)
