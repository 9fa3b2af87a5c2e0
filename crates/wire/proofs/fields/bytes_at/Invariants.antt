-- The loop of `bytes_at`: the bytes passed are those of the rest.
use Prim.Native.Nat.{ℕ, ◌<◌}
use mathlib.Core.Path.{◌≡◌}
use lib.ListN.{length, get_or}
use Rattle.wire.proofs.fields.bytes_at.Given as goal

abbrev pub invariant-loop-i : goal.invariant-loop-i
invariant-loop-i g l = (length l.x-items ≡ g.row.N) × ((k : ℕ) → k < l.i → get_or l.x-items k 0 ≡ get_or l.rest k 0)
