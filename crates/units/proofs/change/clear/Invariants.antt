-- `clear`: the units so far are cleared, the rest are as they were. Assumes nothing.
use Rattle.std.proofs.Common.{◌≡◌, take, drop, ◌++◌}
use Rattle.machine.specs.Units.{cleared}
use Rattle.units.proofs.change.clear.Given as goal

abbrev pub invariant-loop-unit : goal.invariant-loop-unit
invariant-loop-unit l = l.units ≡ cleared (take l.unit-index l.initial.units) ++ drop l.unit-index l.initial.units
