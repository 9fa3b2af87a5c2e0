-- The loop of `number`: the sum is what the bytes passed stand for; a byte adds at most 207.
use Prim.Native.Nat.{◌+◌, ◌*◌, ◌^◌, ◌≤◌}
use mathlib.Core.Path.{◌≡◌}
use lib.ListN.{take}
use Rattle.wire.specs.Numbers.{decimal_value}
use Rattle.wire.proofs.digits.number.Given as goal

abbrev pub invariant-loop-c : goal.invariant-loop-c
invariant-loop-c l = (l.sum ≡ decimal_value (take l.c-index l.c-items)) × (l.sum + 23 ≤ 23 * 10 ^ l.c-index)
