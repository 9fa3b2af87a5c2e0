-- Document 01's "Numbers that come back", with number 18 of document 02, A7: the number of each answer, and the count of bytes that data has.
use Rattle.std.specs.Prelude.{ℕ}
use Rattle.machine.specs.declared.answer.Answer.{Answer}
use Rattle.machine.specs.declared.answer.Answer.TheVariants.{Data, Ack, Nak, Stall, Silent, Refused}
use Rattle.machine.specs.declared.answer.Refusal.{Refusal}
use Rattle.machine.specs.declared.answer.Refusal.TheVariants as refusal

abbrev pub refusal_number : Refusal → ℕ
refusal_number refusal.Record = 10
refusal_number refusal.Medium = 11
refusal_number refusal.Buffer = 12
refusal_number refusal.Packet = 13
refusal_number refusal.Setup = 14
refusal_number refusal.Number = 15
refusal_number refusal.Unit = 18

abbrev pub number_of : Answer → ℕ
number_of (Data n) = 0
number_of Ack = 1
number_of Nak = 2
number_of Stall = 3
number_of Silent = 4
number_of (Refused r) = refusal_number r

abbrev pub count_of : Answer → ℕ
count_of (Data n) = n
count_of Ack = 0
count_of Nak = 0
count_of Stall = 0
count_of Silent = 0
count_of (Refused r) = 0
