-- `reset_parts` meets its contract. Assumes nothing.
use mathlib.Core.Path.{ap, ◌∙◌}
use mathlib.Core.List.{[]}
use Rattle.machine.specs.Record.{device}
use Rattle.machine.specs.World.{world}
use Rattle.machine.specs.Control.{reset}
use Rattle.machine.specs.Machine.{lent, checks, effect, bus_reset, told}
use Rattle.state.proofs.Gates.{refused, gone-on}
use Rattle.control.proofs.parts.reset_parts.Goals as goal

pub returns-in-Err : goal.returns-in-Err
unfolding lent checks
returns-in-Err c =
    λ m.
    let a = c.args in
    refused _ (world (device a.identity a.state.now a.part.now) a.units.now m) bus_reset (simp c.fits.ensures at c.admit.ensures) _ c.in-Err.is

pub returns-in-Ok : goal.returns-in-Ok
unfolding checks effect reset
returns-in-Ok c =
    λ m.
    let a = c.args in
    ap told (c.drop_command.ensures a.identity m [] _ _ _ _ c.dropped_state.ensures)
    ∙ gone-on _ (world (device a.identity a.state.now a.part.now) a.units.now m) bus_reset (simp c.fits.ensures at c.admit.ensures) c.in-Ok.is
