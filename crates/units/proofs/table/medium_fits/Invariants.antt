-- `medium_fits`: what is left of the length is for the units that are left. Assumes nothing.
use Rattle.std.proofs.Common.{◌≡◌, ◌*◌, eqb, drop}
use Rattle.machine.specs.Units.{block_size, total}
use Rattle.units.proofs.table.medium_fits.Given as goal

abbrev pub invariant-loop-unit : goal.invariant-loop-unit
invariant-loop-unit l = eqb l.length (block_size * total l.units) ≡ eqb l.rest (block_size * total (drop l.unit-index l.units))
