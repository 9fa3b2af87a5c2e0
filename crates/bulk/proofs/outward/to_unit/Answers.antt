-- `to_unit` meets its contract: the unit's part is lent, and put back where it was. Assumes nothing.
use Prim.Native.Nat.{◌+◌, ◌*◌, ◌-◌}
use mathlib.Core.Path.{refl}
use native.Mathlib.Omega.{arith}
use Rattle.machine.specs.Units.{unit_at}
use Rattle.bulk.proofs.Running.{given_back}
use borrow.Author.Rules.{rules}
use Rattle.bulk.proofs.outward.to_unit.Goals as goal

pub returns : goal.returns
returns c =
    λ i.
    let a = c.args in
    let n = a.state.now.link.task.lun in
    let u = unit_at a.units.now n in
    let r = c.requires.room in
    given_back a.units.now a.medium.now n u (512 * u.first + 512 * u.blocks - 512 * u.first) refl (omega arith) (omega arith) _ _ _ _ (c.on_data.ensures i) refl (search rules)
