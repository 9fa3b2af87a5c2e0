-- `fits_over`: the units so far fit, and the rest is still to be looked at. Assumes nothing.
use Rattle.std.proofs.Common.{◌≡◌, ◌≤◌, ◌*◌, drop}
use Rattle.machine.specs.Units.{most_blocks}
use Rattle.cevents.proofs.Over.{over}
use Rattle.cevents.proofs.place.fits_over.Given as goal

abbrev pub invariant-loop-unit : goal.invariant-loop-unit
invariant-loop-unit l = (l.next ≤ most_blocks * l.unit-index) × (over 0 l.units l.medium ≡ over l.next (drop l.unit-index l.units) l.medium)
