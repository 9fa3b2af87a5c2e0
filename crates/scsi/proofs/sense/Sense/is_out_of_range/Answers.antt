-- `is_out_of_range` meets its contract. Assumes nothing.
use native.Mathlib.Omega.{arith}
use Rattle.std.proofs.lemmas.Bool.Decides.{nat_tests}
use Rattle.wire.specs.Choice.{◌and◌}
use Rattle.scsi.specs.Sense.{is_out_of_range}
use Rattle.scsi.proofs.sense.Sense.is_out_of_range.Goals as goal

pub returns-then-self-eq33 : goal.returns-then-self-eq33
unfolding is_out_of_range ◌and◌
returns-then-self-eq33 c = grind (arith, nat_tests)

pub returns-else-self-eq33 : goal.returns-else-self-eq33
unfolding is_out_of_range ◌and◌
returns-else-self-eq33 c = grind (arith, nat_tests)
