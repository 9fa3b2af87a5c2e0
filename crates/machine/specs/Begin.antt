-- An accepted wrapper (document 01, "Commands" and "The thirteen meetings of host and device").
use Rattle.std.specs.Prelude.{◌*◌, Bool, true}
use Rattle.wire.specs.Choice.{when◌then◌else◌}
use Rattle.scsi.specs.Sense.{no_sense}
use Rattle.scsi.specs.declared.sense.Sense.{Sense}
use Rattle.scsi.specs.declared.command.Plan.{Plan}
use Rattle.scsi.specs.declared.command.Plan.TheVariants.{Failed, Nothing, Reply, Read, Write}
use Rattle.scsi.specs.declared.reply.ReplyKind.{ReplyKind}
use Rattle.scsi.specs.declared.reply.ReplyKind.TheVariants as kind
use Rattle.scsi.specs.declared.reply.Reply as replies
use Rattle.scsi.specs.declared.reply.Reply.TheVariants as reply
use Rattle.cases.specs.Cases.{case_of}
use Rattle.cases.specs.declared.Transfer.{Transfer}
use Rattle.cases.specs.declared.Transfer.TheVariants.{None, In, Out}
use Rattle.cases.specs.declared.Pipe.TheVariants as pipe
use Rattle.cases.specs.declared.Halt.{Halt}
use Rattle.cases.specs.declared.Halt.TheVariants as halt
use Rattle.cases.specs.declared.Ending.{Ending}
use Rattle.cases.specs.declared.Ending.TheVariants as ending
use Rattle.cases.specs.declared.Case.{Case}
use Rattle.bot.specs.declared.cbw.Header.{Header}
use Rattle.bot.specs.declared.csw.Status.{Status}
use Rattle.bot.specs.declared.csw.Status.TheVariants as status
use Rattle.machine.specs.declared.record.Stage.{Stage}
use Rattle.machine.specs.declared.record.Stage.TheVariants.{DataOut, DataIn, ReplyIn, StatusDue}
use Rattle.machine.specs.declared.record.LogicalUnit.{LogicalUnit}
use Rattle.machine.specs.declared.record.State.{State}
use Rattle.machine.specs.Units.{block_size, with_sense, is_protected}
use Rattle.machine.specs.Record.{moved, task}

-- What the host announces; the direction at length 0 is ignored by the cases themselves.
unfoldable pub host_of : Header → Transfer
host_of h = when h.inward then In h.announced else Out h.announced

-- What the device has. "A failed command has no data."
unfoldable pub has_of : Plan → Transfer
has_of (Failed s) = None
has_of Nothing = None
has_of (Reply k n) = In n
has_of (Read block count) = In (block_size * count)
has_of (Write block count) = Out (block_size * count)

-- "An accepted command sets the sense (00/00/00 if passed)"
unfoldable pub sense_of : Plan → Sense
sense_of (Failed s) = s
sense_of Nothing = no_sense
sense_of (Reply k n) = no_sense
sense_of (Read block count) = no_sense
sense_of (Write block count) = no_sense

unfoldable pub own_status : Plan → Status
own_status (Failed s) = status.Failed
own_status Nothing = status.Passed
own_status (Reply k n) = status.Passed
own_status (Read block count) = status.Passed
own_status (Write block count) = status.Passed

-- A reply with the values found at the wrapper: "Request Sense sends what it found"; "A change [of the switch] during a command counts from the next wrapper"
-- (document 02, A4).
unfoldable pub reply_of : ReplyKind → LogicalUnit → replies.Reply
reply_of kind.Sense u = reply.Sense u.sense
reply_of kind.Inquiry u = reply.Inquiry
reply_of (kind.Page p) u = reply.Page p
reply_of kind.ModeSense u = reply.ModeSense (is_protected u)
reply_of kind.Capacity u = reply.Capacity u.blocks

unfoldable pub data_stage : Plan → LogicalUnit → Stage
data_stage (Failed s) u = StatusDue status.Failed
data_stage Nothing u = StatusDue status.Passed
data_stage (Reply k n) u = ReplyIn (reply_of k u) 0 n
data_stage (Read block count) u = DataIn (block_size * block) (block_size * count)
data_stage (Write block count) u = DataOut block count 0

-- Data moves, or the status is due at once.
unfoldable pub first_stage : Transfer → Plan → LogicalUnit → Stage
first_stage None p u = StatusDue (own_status p)
first_stage (In n) p u = data_stage p u
first_stage (Out n) p u = data_stage p u

-- "The table's halts begin once the device's data is done, or at the wrapper if there is none."
unfoldable pub halts_in : Halt → Bool → Bool
halts_in halt.None before = before
halts_in (halt.AtOnce pipe.In) before = true
halts_in (halt.AtOnce pipe.Out) before = before
halts_in (halt.AfterData p) before = before

unfoldable pub halts_out : Halt → Bool → Bool
halts_out halt.None before = before
halts_out (halt.AtOnce pipe.In) before = before
halts_out (halt.AtOnce pipe.Out) before = true
halts_out (halt.AfterData p) before = before

-- "A phase error found at the wrapper leaves sense and medium untouched."
unfoldable pub sensed : Ending → Plan → Sense → Sense
sensed ending.Command p found = sense_of p
sensed ending.PhaseError p found = found

unfoldable pub staged : Ending → Transfer → Plan → LogicalUnit → Stage
staged ending.Command t p u = first_stage t p u
staged ending.PhaseError t p u = StatusDue status.PhaseError

unfoldable pub begun_by : Case → Header → Plan → State → LogicalUnit → State
begun_by c h p s u =
    moved s
    (halts_in c.halt s.link.haltin)
    (halts_out c.halt s.link.haltout)
    (task (staged c.ending c.moves p u) h.lun h.tag h.announced h.announced)

-- The state that a command begins with, and its unit.
unfoldable pub begun : Header → Plan → State → LogicalUnit → State
begun h p s u = begun_by (case_of (host_of h) (has_of p)) h p s u

unfoldable pub begun_unit : Header → Plan → LogicalUnit → LogicalUnit
begun_unit h p u = with_sense u (sensed (case_of (host_of h) (has_of p)).ending p u.sense)
