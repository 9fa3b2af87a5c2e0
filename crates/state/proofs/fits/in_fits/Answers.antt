-- `in_fits` meets its contract. Assumes nothing.
use Prim.Native.Nat.{ℕ, ◌+◌, ◌≤◌, ◌<◌}
use mathlib.Core.Path.{◌≡◌}
use mathlib.Core.Bool.{false}
use mathlib.Core.Logic.{◌⊎◌, inl, inr}
use borrow.Author.Tests.{le-leb, lt-leb}
use Rattle.std.proofs.Common.{rules}
use Rattle.wire.specs.Choice.{◌and◌}
use Rattle.machine.specs.Fits.{in_fits}
use Rattle.state.proofs.fits.in_fits.Goals as goal

-- bytes beyond the size, or more than the residue
not_in_fits : (size place left announced residue : ℕ) → (place + left ≤ size × residue < left) ⊎ (size < place + left) → in_fits size place left announced residue ≡ false
unfolding in_fits ◌and◌
not_in_fits size place left announced residue (inl h) = simp (le-leb _ _ h.0, lt-leb _ _ h.1)
not_in_fits size place left announced residue (inr h) = simp (lt-leb _ _ h)

pub returns-then-left-residue : goal.returns-then-left-residue
unfolding in_fits ◌and◌
returns-then-left-residue c = let h = c.if-left-residue.true in simp (le-leb _ _ h.0, le-leb _ _ h.1)

pub returns-else-left-residue : goal.returns-else-left-residue
returns-else-left-residue c = let k = c.args in let e = not_in_fits k.size k.place k.left k.announced k.residue c.if-left-residue.either in search rules
