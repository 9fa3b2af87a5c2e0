-- `no_value` meets its contract. Assumes nothing.
use native.Mathlib.Omega.{arith}
use Rattle.std.proofs.lemmas.Bool.Decides.{nat_tests}
use Rattle.wire.specs.Choice.{◌and◌}
use Rattle.crecord.specs.Flat.{no_value}
use Rattle.crecord.proofs.decode.no_value.Goals as goal

pub returns-then-value-eq0 : goal.returns-then-value-eq0
unfolding no_value ◌and◌
returns-then-value-eq0 c = grind (arith, nat_tests)

pub returns-else-value-eq0 : goal.returns-else-value-eq0
unfolding no_value ◌and◌
returns-else-value-eq0 c = grind (arith, nat_tests)
