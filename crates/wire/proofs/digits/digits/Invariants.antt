-- The loop of `digits`: the digits that are left to write, then those that stand.
use Prim.Native.Nat.{◌*◌}
use mathlib.Core.Path.{◌≡◌}
use mathlib.Core.List.{◌++◌}
use lib.ListN.{length, drop}
use Rattle.wire.specs.Numbers.{decimal}
use Rattle.wire.proofs.digits.digits.Given as goal

abbrev pub invariant-loop-i : goal.invariant-loop-i
invariant-loop-i l = (length l.out ≡ 12) × (decimal 12 l.n ≡ decimal (2 * l.i) l.rest ++ drop (2 * l.i) l.out)
