-- `flags_of` meets its contract. Assumes nothing.
use Prim.Native.Nat.{ℕ, ◌≤◌}
use mathlib.Core.Path.{◌≡◌}
use mathlib.Core.Bool.{Bool, true, false}
use native.Mathlib.Omega.{arith}
use Rattle.wire.specs.Choice.{when◌then◌else◌}
use Rattle.crecord.specs.Flat.{worth, flags_of}
use Rattle.crecord.proofs.encode.flags_of.Goals as goal

at_most : (on : Bool) (n r : ℕ) → r ≡ worth on n → r ≤ n
unfolding worth when◌then◌else◌
at_most true n r e = omega arith
at_most false n r e = omega arith

pub overflow_add-result : goal.overflow_add-result
overflow_add-result c = omega (arith, at_most _ _ _ c.worth.ensures, at_most _ _ _ c.worth-2.ensures)

pub overflow_add-result-2 : goal.overflow_add-result-2
overflow_add-result-2 c = omega (arith, at_most _ _ _ c.worth.ensures, at_most _ _ _ c.worth-2.ensures, at_most _ _ _ c.worth-3.ensures)

pub overflow_add-result-3 : goal.overflow_add-result-3
overflow_add-result-3 c = omega (arith, at_most _ _ _ c.worth.ensures, at_most _ _ _ c.worth-2.ensures, at_most _ _ _ c.worth-3.ensures, at_most _ _ _ c.worth-4.ensures)

pub returns : goal.returns
unfolding flags_of
returns c = simp (c.worth.ensures, c.worth-2.ensures, c.worth-3.ensures, c.worth-4.ensures)
