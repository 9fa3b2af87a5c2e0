-- `sense_number` meets its contract. Assumes nothing.
use native.Mathlib.Omega.{arith}
use Rattle.wire.specs.Numbers.{value}
use Rattle.crecord.specs.Flat.{sense_number}
use Rattle.crecord.proofs.encode.sense_number.Goals as goal

pub returns : goal.returns
unfolding sense_number value
returns c = let h = c.from_le_bytes.ensures in omega arith
