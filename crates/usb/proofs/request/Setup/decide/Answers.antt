-- `decide` meets its contract: a key that no arm has is under no row. Assumes nothing.
use Rattle.std.proofs.Common.{arith}
use Rattle.std.proofs.lemmas.Grind.{common_steps}
use Rattle.wire.specs.Choice.{when◌then◌else◌, look}
use Rattle.usb.specs.Request.{requests, decided}
use Rattle.usb.proofs.request.Setup.decide.Goals as goal

pub returns-in_default-3 : goal.returns-in_default-3
unfolding decided requests look when◌then◌else◌
returns-in_default-3 c = grind (arith, common_steps)
