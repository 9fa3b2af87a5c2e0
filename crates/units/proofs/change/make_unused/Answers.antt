-- `make_unused` meets its contract. Assumes nothing.
use mathlib.Core.Path.{refl}
use native.Mathlib.Omega.{arith}
use Rattle.machine.specs.Units.{unused, as_made}
use Rattle.units.proofs.Tables.{mapped_more}
use Rattle.units.proofs.change.make_unused.Goals as goal

pub loop-unit-init : goal.loop-unit-init
unfolding as_made
loop-unit-init c = refl

pub loop-unit-preserved : goal.loop-unit-preserved
unfolding as_made
loop-unit-preserved c =
    let l = c.loop-unit in
    mapped_more unused c.args.units.now l.units l.unit-index _ _ (omega arith) (omega arith) l.invariant c.unused.ensures
