-- `is_position` meets its contract. Assumes nothing.
use native.Mathlib.Omega.{arith}
use Rattle.std.proofs.lemmas.Bool.Decides.{nat_tests}
use Rattle.wire.specs.Choice.{◌and◌}
use Rattle.crecord.specs.Flat.{is_position}
use Rattle.crecord.proofs.decode.is_position.Goals as goal

pub returns-then-value-le1 : goal.returns-then-value-le1
unfolding is_position ◌and◌
returns-then-value-le1 c = grind (arith, nat_tests)

pub returns-else-value-le1 : goal.returns-else-value-le1
unfolding is_position ◌and◌
returns-else-value-le1 c = grind (arith, nat_tests)
