-- `in_parts` meets its contract. Assumes nothing.
use mathlib.Core.Path.{ap, ◌∙◌}
use mathlib.Core.List.{[]}
use Rattle.machine.specs.Units.{medium_fits}
use Rattle.machine.specs.Machine.{lent, effect, told}
use Rattle.state.proofs.Gates.{refused, gone-on}
use Rattle.bulk.proofs.Admission.{in-checks, sound}
use Rattle.bulk.proofs.parts.in_parts.Goals as goal

pub packet_in-requires : goal.packet_in-requires
unfolding medium_fits
packet_in-requires c =
    let a = c.args in
    sound a.identity a.state.now [] a.units.now a.medium.now _ _ _ c.fits-fits.ensures c.medium_beside.ensures _ _ c.in-Ok.is c.admit.ensures

pub returns-in-Err : goal.returns-in-Err
unfolding lent medium_fits
returns-in-Err c =
    λ p.
    let a = c.args in
    refused _ _ _ (in-checks a.identity a.state.now p a.units.now a.medium.now c.admit.result _ _ c.fits-fits.ensures c.medium_beside.ensures a.buffer.now c.admit.ensures) _ c.in-Err.is

pub returns-in-Ok : goal.returns-in-Ok
unfolding effect medium_fits
returns-in-Ok c =
    λ p.
    let a = c.args in
    ap told (c.packet_in.ensures p)
    ∙ gone-on _ _ _ (in-checks a.identity a.state.now p a.units.now a.medium.now c.admit.result _ _ c.fits-fits.ensures c.medium_beside.ensures a.buffer.now c.admit.ensures) c.in-Ok.is
