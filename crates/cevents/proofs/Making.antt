-- A making on C's numbers. Assumes nothing.
use Prim.Native.Nat.{ℕ}
use mathlib.Core.Path.{◌≡◌, ap}
use mathlib.Core.List.{List}
use Rattle.usb.specs.declared.descriptor.Identity.{Identity}
use Rattle.machine.specs.declared.answer.Answer.{Answer}
use Rattle.machine.specs.declared.record.Device.{Device}
use Rattle.machine.specs.Answer.{number_of}
use Rattle.machine.specs.Units.{Table}
use Rattle.machine.specs.Making.{made, make, ToldMade, told_made}
use Rattle.machine.specs.World.{world}
use Rattle.crecord.specs.declared.record.Record.{Record}
use Rattle.crecord.specs.declared.record.Told as tolds
use Rattle.crecord.specs.Flat.{answer, record_of}
use Rattle.cevents.specs.Events.{left_made, leaves_made, on_making}

pub making : (i : Identity) (us us' : Table) (m : List ℕ) (a : Answer) (d : Device) (t : tolds.Told) (r : Record)
    → told_made (made a d us') ≡ told_made (make i us m) → t ≡ answer (number_of a) 0 → r ≡ record_of (world d us' m) → left_made t r us' ≡ on_making i us m
unfolding on_making
making i us us' m a d t r k et er = simp (et, er) (ap (λ (y : ToldMade). leaves_made y m) k)
