-- `follow`: the units so far follow on, and the rest is still to be looked at. Assumes nothing.
use Rattle.std.proofs.Common.{◌≡◌, ◌≤◌, ◌*◌, drop}
use Rattle.machine.specs.Units.{follow, most_blocks}
use Rattle.units.proofs.table.follow.Given as goal

abbrev pub invariant-loop-unit : goal.invariant-loop-unit
invariant-loop-unit l = (l.next ≤ most_blocks * l.unit-index) × (follow 0 l.units ≡ follow l.next (drop l.unit-index l.units))
