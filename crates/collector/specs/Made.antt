-- What a making leaves: a device, or none, over the table that is left.
use Rattle.std.specs.Prelude.{Result, Ok, Err}
use Rattle.machine.specs.declared.answer.Answer.TheVariants.{Ack}
use Rattle.machine.specs.declared.answer.Refusal.{Refusal}
use Rattle.machine.specs.declared.record.Device.{Device}
use Rattle.machine.specs.Units.{Table}
use Rattle.machine.specs.Making.{Made, made, not_made}

abbrev pub left : Result Device Refusal → Table → Made
left (Ok d) us = made Ack d us
left (Err why) us = not_made why us
