-- `out_parts` meets its contract. Assumes nothing.
use mathlib.Core.Path.{ap, ◌∙◌}
use mathlib.Core.List.{[]}
use Rattle.machine.specs.Units.{medium_fits}
use Rattle.machine.specs.Machine.{lent, effect, told}
use Rattle.state.proofs.Gates.{refused, gone-on}
use Rattle.bulk.proofs.Admission.{out-checks, sound}
use Rattle.bulk.proofs.parts.out_parts.Goals as goal

pub packet_out-requires : goal.packet_out-requires
unfolding medium_fits
packet_out-requires c =
    let a = c.args in
    sound a.identity a.state.now [] a.units.now a.medium.now _ _ _ c.fits-fits.ensures c.medium_beside.ensures _ _ c.in-Ok.is c.admit.ensures

pub returns-in-Err : goal.returns-in-Err
unfolding lent medium_fits
returns-in-Err c =
    let a = c.args in
    refused _ _ _ (out-checks a.identity a.state.now a.part.now a.units.now a.medium.now c.admit.result _ _ c.fits-fits.ensures c.medium_beside.ensures a.packet.now c.admit.ensures) _ c.in-Err.is

pub returns-in-Ok : goal.returns-in-Ok
unfolding effect medium_fits
returns-in-Ok c =
    let a = c.args in
    ap told (c.packet_out.ensures a.identity)
    ∙ gone-on _ _ _ (out-checks a.identity a.state.now a.part.now a.units.now a.medium.now c.admit.result _ _ c.fits-fits.ensures c.medium_beside.ensures a.packet.now c.admit.ensures) c.in-Ok.is
