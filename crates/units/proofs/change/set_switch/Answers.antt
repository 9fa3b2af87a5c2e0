-- `set_switch` meets its contract. Assumes nothing.
use mathlib.Core.Path.{sym}
use Rattle.std.proofs.Common.{rules}
use Rattle.std.proofs.lemmas.List.{set_past}
use Rattle.machine.specs.Units.{switched_to}
use Rattle.units.proofs.change.set_switch.Goals as goal

pub returns-then-n-units : goal.returns-then-n-units
unfolding switched_to
returns-then-n-units c = search rules

pub returns-else-n-units : goal.returns-else-n-units
unfolding switched_to
returns-else-n-units c = sym (set_past _ _ _ c.if-n-units.false)
