-- `data_stage` meets its contract. Assumes nothing.
use Prim.Native.Nat.{ℕ, ◌≤◌}
use mathlib.Core.Path.{◌≡◌, sym, ap, ◌∙◌}
use mathlib.Core.Bool.{true}
use native.Mathlib.Omega.{arith}
use borrow.Author.Tests.{leb-true}
use Rattle.scsi.specs.declared.command.Plan.{Plan}
use Rattle.scsi.specs.declared.command.Plan.TheVariants.{Read}
use Rattle.machine.specs.Units.{most_blocks}
use Rattle.begin.specs.InRange.{is_in_range}
use Rattle.begin.proofs.command.data_stage.Goals as goal

read_in_range : (p : Plan) (block count : ℕ) → is_in_range p ≡ true → p ≡ Read block count → block ≤ most_blocks
unfolding is_in_range
read_in_range p block count n e = leb-true _ _ (sym (ap is_in_range e) ∙ n)

pub overflow_mul-result : goal.overflow_mul-result
overflow_mul-result c = let h = read_in_range _ _ _ c.requires c.in-Read.is in record { fits = omega arith }
