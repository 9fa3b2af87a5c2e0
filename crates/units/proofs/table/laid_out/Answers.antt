-- `laid_out` meets its contract. Assumes nothing.
use mathlib.Core.Path.{◌≡◌}
use mathlib.Core.Bool.{false}
use mathlib.Core.Logic.{◌⊎◌, inl, inr}
use borrow.Author.Tests.{le-leb, lt-leb}
use Rattle.std.proofs.Common.{rules, ◌≤◌, ◌<◌, length}
use Rattle.wire.specs.Choice.{◌and◌}
use Rattle.machine.specs.Units.{Table, laid_out}
use Rattle.units.proofs.table.laid_out.Goals as goal

-- too few units, or too many
not_laid_out : (us : Table) → (1 ≤ length us × 4 < length us) ⊎ (length us < 1) → laid_out us ≡ false
unfolding laid_out ◌and◌
not_laid_out us (inl h) = simp (le-leb 1 _ h.0, lt-leb _ 4 h.1)
not_laid_out us (inr h) = simp (lt-leb 1 _ h)

pub returns-then-units-le4 : goal.returns-then-units-le4
unfolding laid_out ◌and◌
returns-then-units-le4 c = let h = c.if-units-le4.true in simp (le-leb 1 _ h.0, le-leb _ 4 h.1) c.follow.ensures

pub returns-else-units-le4 : goal.returns-else-units-le4
returns-else-units-le4 c = let e = not_laid_out _ c.if-units-le4.either in search rules
