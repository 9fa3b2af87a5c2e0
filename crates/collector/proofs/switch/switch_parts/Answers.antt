-- `switch_parts` meets its contract. Assumes nothing.
use Rattle.machine.specs.Record.{device}
use Rattle.machine.specs.World.{world}
use Rattle.machine.specs.Machine.{lent, checks, effect, set_switch}
use Rattle.state.proofs.Gates.{refused, gone-on}
use Rattle.collector.proofs.switch.switch_parts.Goals as goal

pub returns-in-Err : goal.returns-in-Err
unfolding lent checks
returns-in-Err c =
    λ p m.
    let a = c.args in
    refused _ (world (device a.identity a.state p) a.units.now m) (set_switch a.position a.lun) (simp (← c.both_fit.ensures) c.admit.ensures) _ c.in-Err.is

pub returns-in-Ok : goal.returns-in-Ok
unfolding checks effect
returns-in-Ok c =
    λ p m.
    let a = c.args in
    simp c.set_switch.ensures
    (gone-on _ (world (device a.identity a.state p) a.units.now m) (set_switch a.position a.lun) (simp (← c.both_fit.ensures) c.admit.ensures) c.in-Ok.is)
