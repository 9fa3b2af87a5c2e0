-- `reply_parts` meets its contract. Assumes nothing.
use mathlib.Core.Path.{ap, ◌∙◌}
use Rattle.machine.specs.Record.{device}
use Rattle.machine.specs.World.{world}
use Rattle.machine.specs.Machine.{told}
use Rattle.machine.specs.Show.{give_reply}
use Rattle.state.proofs.Gates.{judged-ended, judged-passed}
use Rattle.bulk.proofs.Showing.{reply-held, reply-checks, gives}
use Rattle.bulk.proofs.show.reply_parts.Goals as goal

pub returns-in-Err : goal.returns-in-Err
unfolding give_reply
returns-in-Err c =
    λ p m.
    let a = c.args in
    let w = world (device a.identity a.state p) a.units.now m in
    judged-ended _ _ (reply-checks w a.buffer.now c.admit.result _ c.fits.ensures c.admit.ensures) w a.buffer.now _ _ c.in-Err.is

pub returns-in-Ok : goal.returns-in-Ok
unfolding give_reply
returns-in-Ok c =
    λ p m.
    let a = c.args in
    let w = world (device a.identity a.state p) a.units.now m in
    let h = reply-held _ _ _ c.record_reply-own.ensures in
    ap told (gives w a.buffer.now _ _ _ c.put_packet.ensures (c.as_slice.ensures ∙ h.slice) h.count)
    ∙ judged-passed _ _ (reply-checks w a.buffer.now c.admit.result _ c.fits.ensures c.admit.ensures) w a.buffer.now _ c.in-Ok.is
