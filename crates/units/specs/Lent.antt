-- The lent table.
use Rattle.scsi.specs.Sense.{no_sense}
use Rattle.machine.specs.declared.record.LogicalUnit.{LogicalUnit}
use Rattle.machine.specs.Units.{unit}

-- What `unit_at` gives beyond a table.
abbrev pub no_unit : LogicalUnit
no_unit = unit 0 0 no_sense 0
