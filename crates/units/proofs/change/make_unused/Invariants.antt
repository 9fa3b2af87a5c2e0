-- `make_unused`: the units so far are as made, the rest as they were. Assumes nothing.
use Rattle.std.proofs.Common.{◌≡◌, take, drop, ◌++◌}
use Rattle.machine.specs.Units.{as_made}
use Rattle.units.proofs.change.make_unused.Given as goal

abbrev pub invariant-loop-unit : goal.invariant-loop-unit
invariant-loop-unit l = l.units ≡ as_made (take l.unit-index l.initial.units) ++ drop l.unit-index l.initial.units
