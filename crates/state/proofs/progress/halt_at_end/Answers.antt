-- `halt_at_end` meets its contract. Assumes nothing.
use Prim.Native.Nat.{ℕ, ◌≤◌, ◌<◌}
use mathlib.Core.Path.{◌≡◌}
use mathlib.Core.Bool.{Bool, true, false}
use mathlib.Core.Logic.{◌⊎◌, inl, inr}
use borrow.Author.Tests.{lt-ltb, le-ltb}
use Rattle.std.proofs.Common.{rules}
use Rattle.wire.specs.Choice.{when◌then◌else◌}
use Rattle.machine.specs.Bulk.{halt_at_end}
use Rattle.state.proofs.progress.halt_at_end.Goals as goal

halts : (last : Bool) (residue : ℕ) (before : Bool) → last ≡ true → 0 < residue → halt_at_end last residue before ≡ true
unfolding halt_at_end when◌then◌else◌
halts last residue before e l = simp (e, lt-ltb _ _ l)

stays : (last : Bool) (residue : ℕ) (before : Bool) → (last ≡ true × residue ≤ 0) ⊎ (last ≡ false) → halt_at_end last residue before ≡ before
unfolding halt_at_end when◌then◌else◌
stays last residue before (inl h) = simp (h.0, le-ltb _ _ h.1)
stays last residue before (inr h) = simp h

pub returns-then-residue-gt0 : goal.returns-then-residue-gt0
returns-then-residue-gt0 c = let k = c.args in let h = c.if-residue-gt0.true in let e = halts k.last k.residue k.before h.0 h.1 in search rules

pub returns-else-residue-gt0 : goal.returns-else-residue-gt0
returns-else-residue-gt0 c = let k = c.args in let e = stays k.last k.residue k.before c.if-residue-gt0.either in search rules
