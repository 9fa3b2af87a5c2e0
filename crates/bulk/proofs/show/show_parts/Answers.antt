-- `show_parts` meets its contract. Assumes nothing.
use mathlib.Core.Path.{ap, ◌∙◌}
use mathlib.Core.List.{[]}
use Rattle.machine.specs.Units.{medium_fits}
use Rattle.machine.specs.Show.{told_shown}
use Rattle.bulk.proofs.Admission.{show-checks, show-sound}
use Rattle.bulk.proofs.Running.{askable}
use Rattle.bulk.proofs.Showing.{show-ended, show-passed}
use Rattle.bulk.proofs.show.show_parts.Goals as goal

pub show_packet-requires : goal.show_packet-requires
unfolding medium_fits
show_packet-requires c =
    let a = c.args in
    askable _ _ _ (show-sound a.identity a.state.now [] a.units.now a.medium.now _ _ _ a.reply.now c.fits_reply-fits.ensures c.medium_beside.ensures c.admit.ensures c.in-Ok.is)

pub returns-in-Err : goal.returns-in-Err
unfolding medium_fits
returns-in-Err c =
    λ p.
    let a = c.args in
    simp c.nowhere.ensures (show-ended _ _ _ (show-checks a.identity a.state.now p a.units.now a.medium.now c.admit.result _ _ a.reply.now c.fits_reply-fits.ensures c.medium_beside.ensures c.admit.ensures) _ c.in-Err.is)

pub returns-in-Ok : goal.returns-in-Ok
unfolding medium_fits
returns-in-Ok c =
    λ p.
    let a = c.args in
    ap told_shown (c.show_packet.ensures a.identity p a.medium.now)
    ∙ show-passed _ _ _ (show-checks a.identity a.state.now p a.units.now a.medium.now c.admit.result _ _ a.reply.now c.fits_reply-fits.ensures c.medium_beside.ensures c.admit.ensures) c.in-Ok.is
