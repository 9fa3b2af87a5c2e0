-- Making a collector over a lent table and medium (document 01, numbers 11 and 15; document 02, A7, number 10).
use Rattle.std.specs.Prelude.{ℕ, List}
use Rattle.wire.specs.Choice.{when◌then◌else◌}
use Rattle.usb.specs.declared.descriptor.Identity.{Identity}
use Rattle.machine.specs.declared.record.Device.{Device}
use Rattle.machine.specs.declared.answer.Answer.{Answer}
use Rattle.machine.specs.declared.answer.Answer.TheVariants.{Ack, Refused}
use Rattle.machine.specs.declared.answer.Refusal.{Refusal}
use Rattle.machine.specs.declared.answer.Refusal.TheVariants as refusal
use Rattle.machine.specs.Answer.{number_of}
use Rattle.machine.specs.Units.{Table, as_made, laid_out, medium_fits}
use Rattle.machine.specs.Record.{fresh, no_device}
use Rattle.machine.specs.Fits.{number_fits}

pub record Made : Type 0 where
  pub answer : Answer
  pub dev : Device
  pub units : Table

abbrev pub made : Answer → Device → Table → Made
made a d us = record { answer = a; dev = d; units = us }

-- "no device made, table kept"
abbrev pub not_made : Refusal → Table → Made
not_made r us = made (Refused r) no_device us

-- "give 10, at making too (first, ..; once made, every sense is zero and every switch open)" (document 02, A7); then "11, then 15". Of the table's senses and switches
-- nothing is asked.
unfoldable pub make : Identity → Table → List ℕ → Made
make i us m =
    when laid_out us
    then (when medium_fits us m
    then (when number_fits i.number then made Ack (fresh i) (as_made us) else not_made refusal.Number us)
    else not_made refusal.Medium us)
    else not_made refusal.Record us

-- The same by document 01's numbers: what the contract says.
pub record ToldMade : Type 0 where
  pub number : ℕ
  pub dev : Device
  pub units : Table

abbrev pub told_made : Made → ToldMade
told_made r = record { number = number_of r.answer; dev = r.dev; units = r.units }
