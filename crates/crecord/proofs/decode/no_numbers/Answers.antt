-- `no_numbers` meets its contract. Assumes nothing.
use native.Mathlib.Omega.{arith}
use Rattle.std.proofs.lemmas.Bool.Decides.{nat_tests}
use Rattle.wire.specs.Choice.{◌and◌}
use Rattle.crecord.specs.Flat.{no_numbers}
use Rattle.crecord.proofs.decode.no_numbers.Goals as goal

pub returns-then-left-eq0 : goal.returns-then-left-eq0
unfolding no_numbers ◌and◌
returns-then-left-eq0 c = grind (arith, nat_tests)

pub returns-else-left-eq0 : goal.returns-else-left-eq0
unfolding no_numbers ◌and◌
returns-else-left-eq0 c = grind (arith, nat_tests)
