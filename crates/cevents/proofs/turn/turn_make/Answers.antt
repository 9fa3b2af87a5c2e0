-- `turn_make` meets its contract. Assumes nothing.
use mathlib.Core.Path.{ap, ◌∙◌}
use Rattle.usb.specs.declared.descriptor.Identity.{Identity}
use Rattle.machine.specs.declared.answer.Answer.TheVariants.{Ack, Refused}
use Rattle.machine.specs.declared.record.Device.{Device}
use Rattle.machine.specs.Record.{no_device}
use Rattle.machine.specs.World.{world}
use Rattle.crecord.specs.Flat.{record_of}
use Rattle.cevents.specs.Events.{on_making}
use Rattle.cevents.proofs.Making.{making}
use Rattle.cevents.proofs.turn.turn_make.Goals as goal

pub returns-in-Ok : goal.returns-in-Ok
returns-in-Ok c =
    let a = c.args in
    making c.from-identity.result a.units.now c.make.new.units a.medium.now Ack c.in-Ok.device _ _ (simp c.in-Ok.is at c.make.ensures) c.from.ensures (c.record_of.ensures c.make.new.units a.medium.now)
    ∙ ap (λ (i : Identity). on_making i a.units.now a.medium.now) c.from-identity.ensures

pub returns-in-Err : goal.returns-in-Err
returns-in-Err c =
    let a = c.args in
    making c.from-identity.result a.units.now c.make.new.units a.medium.now (Refused c.in-Err.why) no_device _ _ (simp c.in-Err.is at c.make.ensures) c.from-in-Err.ensures
    (c.record_of-in-Err.ensures c.make.new.units a.medium.now ∙ ap (λ (d : Device). record_of (world d c.make.new.units a.medium.now)) c.no_device.ensures)
    ∙ ap (λ (i : Identity). on_making i a.units.now a.medium.now) c.from-identity.ensures
