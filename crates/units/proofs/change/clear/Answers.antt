-- `clear` meets its contract. Assumes nothing.
use mathlib.Core.Path.{refl}
use native.Mathlib.Omega.{arith}
use Rattle.machine.specs.Units.{with_sense, unsensed, cleared}
use Rattle.units.proofs.Tables.{mapped_more}
use Rattle.units.proofs.change.clear.Goals as goal

pub loop-unit-init : goal.loop-unit-init
unfolding cleared
loop-unit-init c = refl

pub loop-unit-preserved : goal.loop-unit-preserved
unfolding cleared with_sense
loop-unit-preserved c =
    let l = c.loop-unit in
    mapped_more unsensed c.args.units.now l.units l.unit-index _ _ (omega arith) (omega arith) l.invariant c.put_sense.ensures
