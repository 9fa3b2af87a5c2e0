-- The state and the unit that an accepted wrapper leaves, for any plan: one whose first block lies beyond every unit leaves them as they were.
use Rattle.std.specs.Prelude.{Bool, true, leb}
use Rattle.wire.specs.Choice.{when◌then◌else◌}
use Rattle.cases.specs.declared.Halt.{Halt}
use Rattle.cases.specs.declared.Pipe.{Pipe}
use Rattle.cases.specs.declared.Pipe.TheVariants.{In, Out}
use Rattle.scsi.specs.declared.command.Plan.{Plan}
use Rattle.scsi.specs.declared.command.Plan.TheVariants.{Failed, Nothing, Reply, Read, Write}
use Rattle.bot.specs.declared.cbw.Header.{Header}
use Rattle.machine.specs.declared.record.LogicalUnit.{LogicalUnit}
use Rattle.machine.specs.declared.record.State.{State}
use Rattle.machine.specs.Units.{most_blocks}
use Rattle.machine.specs.Begin.{halts_in, halts_out, begun, begun_unit}
use Rattle.begin.specs.declared.command.Begun.{Begun}

-- A plan whose first block is within the largest unit's size, so that its place in bytes is a u32: so are all that a unit has.
unfoldable pub is_in_range : Plan → Bool
is_in_range (Failed s) = true
is_in_range Nothing = true
is_in_range (Reply k n) = true
is_in_range (Read block count) = leb block most_blocks
is_in_range (Write block count) = true

abbrev pub pair : State → LogicalUnit → Begun
pair s u = record { state = s; unit = u }

unfoldable pub begun_in_range : Header → Plan → State → LogicalUnit → Begun
begun_in_range h p s u = when is_in_range p then pair (begun h p s u) (begun_unit h p u) else pair s u

-- The halt of either pipe once the command has begun.
abbrev pub halts : Pipe → Halt → Bool → Bool
halts In h before = halts_in h before
halts Out h before = halts_out h before
