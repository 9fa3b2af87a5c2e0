-- `control_parts` meets its contract. Assumes nothing.
use mathlib.Core.Path.{ap, ◌∙◌}
use mathlib.Core.List.{[]}
use borrow.Author.Tests.{leb-true}
use Rattle.wire.proofs.Cases.{both}
use Rattle.machine.specs.Units.{laid_out}
use Rattle.machine.specs.Record.{device}
use Rattle.machine.specs.World.{world}
use Rattle.machine.specs.Machine.{lent, checks, effect, control, told}
use Rattle.machine.proofs.Fit.{fit_of}
use Rattle.state.proofs.Gates.{refused, gone-on, fits-passed}
use Rattle.control.proofs.parts.control_parts.Goals as goal

pub returns-in-Err : goal.returns-in-Err
unfolding lent checks
returns-in-Err c =
    λ m.
    let a = c.args in
    refused _ (world (device a.identity a.state.now a.part.now) a.units.now m) (control a.setup.now a.buffer.now) (simp c.fits.ensures at c.admit.ensures) _ c.in-Err.is

pub perform-requires : goal.perform-requires
unfolding checks laid_out
perform-requires c =
    let a = c.args in
    let w = world (device a.identity a.state.now a.part.now) a.units.now [] in
    let h = simp c.fits.ensures at c.admit.ensures in
    let f = fits-passed _ w (control a.setup.now a.buffer.now) h c.in-Ok.is in
    leb-true _ _ (both _ _ (both _ _ (fit_of w f).laid).1).0

pub returns-in-Ok : goal.returns-in-Ok
unfolding checks effect
returns-in-Ok c =
    λ m.
    let a = c.args in
    ap told (simp c.request_of.ensures at (c.perform.ensures m))
    ∙ gone-on _ (world (device a.identity a.state.now a.part.now) a.units.now m) (control a.setup.now a.buffer.now) (simp c.fits.ensures at c.admit.ensures) c.in-Ok.is
