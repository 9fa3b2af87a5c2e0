-- Which packet is accepted where a wrapper is due (document 01, "Wrappers").
use Rattle.std.specs.Prelude.{ℕ, Bool, List, leb, ltb, length, drop, Option, Some, None}
use Rattle.wire.specs.Choice.{when◌then◌else◌, ◌and◌}
use Rattle.wire.specs.Slices.{byte_at}
use Rattle.scsi.specs.Command.{block_length, plan_of}
use Rattle.scsi.specs.declared.command.Plan.{Plan}
use Rattle.bot.specs.Cbw.{readable, header_of}
use Rattle.bot.specs.declared.cbw.Header.{Header}
use Rattle.machine.specs.declared.record.LogicalUnit.{LogicalUnit}
use Rattle.machine.specs.declared.wrapper.Wrapper.{Wrapper}
use Rattle.machine.specs.Units.{Table, unit_at, is_protected}

-- "To be accepted the unit must be 0 and the block at least as long as its operation code needs"; with a table of so many units, one of them: "a wrapper for a
-- unit beyond it locks" (document 02, A7).
unfoldable pub accepted : ℕ → List ℕ → Bool
accepted count p =
    readable p
    and ltb (header_of p).lun count
    and leb (block_length (byte_at p 15)) (header_of p).size

-- What a unit has for a command block: its size and its switch count, its sense does not.
abbrev pub plan_for : LogicalUnit → List ℕ → Plan
plan_for u b = plan_of b u.blocks (is_protected u)

abbrev pub wrapper : Header → Plan → Wrapper
wrapper h p = record { header = h; plan = p }

-- The command block is read where it stands, from byte 15 on, for the unit that the wrapper names.
unfoldable pub wrapper_of : Table → List ℕ → Option Wrapper
wrapper_of us p =
    when accepted (length us) p
    then Some (wrapper (header_of p) (plan_for (unit_at us (header_of p).lun) (drop 15 p)))
    else None
