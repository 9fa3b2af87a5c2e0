-- Every sense that a collector holds, its units' and one that a reply found, is of bytes, whatever the events, where those of the lent table are. Assumes nothing.
use Prim.Native.Nat.{ℕ}
use mathlib.Core.List.{List}
use Rattle.scsi.specs.Sense.{IsSense}
use Rattle.scsi.specs.declared.sense.Sense.{Sense}
use Rattle.scsi.proofs.Senses.{no_sense_lem, data_phase_lem, failing_bytes}
use Rattle.machine.specs.declared.record.Stage.{Stage}
use Rattle.machine.specs.Units.{unit_at}
use Rattle.machine.specs.World.{World}
use Rattle.machine.specs.Machine.{Event, step}
use Rattle.machine.specs.Tally.{Making}
use Rattle.machine.specs.Claim.{born, lived}
use Rattle.machine.proofs.EverySense as every

abbrev OfBytes : ℕ → Sense → Type 0
OfBytes blocks = IsSense

abbrev pub StageSense : Stage → Type 0
StageSense = every.StageSense IsSense

abbrev pub Senses : World → Type 0
Senses = every.Senses OfBytes

made : every.Makes OfBytes
made = record { none = λ blocks. no_sense_lem; phase = λ blocks. data_phase_lem; fails = failing_bytes }

pub keeps-senses : (w : World) → Senses w → (e : Event) → Senses (step w e).world
keeps-senses = every.keeps-senses OfBytes made

-- also of a refused making, whose table is kept as it is lent
pub made-senses : (k : Making) → ((n : ℕ) → IsSense (unit_at k.units n).sense) → Senses (born k)
made-senses = every.made-senses OfBytes made

pub lived-senses : (k : Making) → Senses (born k) → (es : List Event) → Senses (lived k es).world
lived-senses = every.lived-senses OfBytes made
