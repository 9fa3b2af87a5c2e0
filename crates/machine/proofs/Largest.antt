-- The largest medium, computed by the checker. Assumes nothing.
use mathlib.Core.Path.{refl}
use native.Mathlib.Omega.{arith}
use Rattle.machine.specs.Sheet.{on_blocks}
use Rattle.machine.specs.Largest.{Largest}
use Rattle.machine.proofs.Compute.{computes}

pub largest : Largest
unfolding computes on_blocks
largest = record { served = refl; unserved = refl; capacity = λ n. refl; last = refl; end = refl; past = refl; wraps = refl; places = omega arith }
