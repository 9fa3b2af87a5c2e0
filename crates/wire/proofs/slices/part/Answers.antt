-- `part` meets its contract. Assumes nothing.
use native.Mathlib.Omega.{arith}
use borrow.Author.Tests.{le-leb, lt-leb}
use Rattle.std.proofs.lemmas.Grind.{common_steps}
use Rattle.wire.specs.Choice.{when◌then◌else◌}
use Rattle.wire.specs.Slices.{part}
use Rattle.wire.proofs.slices.part.Goals as goal

pub returns : goal.returns
unfolding part when◌then◌else◌
returns c = grind (arith, common_steps, le-leb, lt-leb)
