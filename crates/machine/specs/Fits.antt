-- Number 10: when a record and its table fit together (document 01, "Numbers that come back"; document 02, A4 and A7). The part block is free.
use Rattle.std.specs.Prelude.{ℕ, ◌+◌, ◌*◌, ◌%◌, Bool, true, false, not, leb, ltb, eqb}
use Rattle.wire.specs.Choice.{when◌then◌else◌, ◌and◌}
use Rattle.scsi.specs.Sense.{is_no_sense}
use Rattle.scsi.specs.Reply.{kind_of, reply_size}
use Rattle.usb.specs.declared.descriptor.Identity.{Identity}
use Rattle.machine.specs.declared.record.Stage.{Stage}
use Rattle.machine.specs.declared.record.Stage.TheVariants.{Ready, DataOut, DataIn, ReplyIn, StatusDue}
use Rattle.machine.specs.declared.record.Task.{Task}
use Rattle.machine.specs.declared.record.Link.{Link}
use Rattle.machine.specs.declared.record.State.{State}
use Rattle.machine.specs.Units.{block_size, Table, unit_at, in_table, every, switches_fit, laid_out}

-- "collector number and address in range"
unfoldable pub number_fits : ℕ → Bool
number_fits n = leb n 999999999999

unfoldable pub address_fits : ℕ → Bool
address_fits a = leb a 0x7F

unfoldable pub is_ready : Stage → Bool
is_ready Ready = true
is_ready (DataOut block left held) = false
is_ready (DataIn place left) = false
is_ready (ReplyIn reply place left) = false
is_ready (StatusDue status) = false

-- "unconfigured means ready, unhalted, unlocked, sense zero": every unit's
unfoldable pub idle_fits : State → Table → Bool
idle_fits s us =
    when s.configured
    then true
    else is_ready s.link.task.stage
    and not s.link.haltin
    and not s.link.haltout
    and not s.link.locked
    and every (λ u. is_no_sense u.sense) us

-- "locked means both pipes halted"
unfoldable pub lock_fits : Link → Bool
lock_fits l = when l.locked then l.haltin and l.haltout else true

-- "a running transfer's blocks lie in the unit, or its reply bytes in the reply; its part block is a multiple of 64 below 512; its bytes still due,
-- a part block's included, are at most its residue, and that, with a status due too, at most the announced length". That a reply's size is how many bytes it
-- has is `Sizes` in scsi/specs/Claims.antt.
unfoldable pub out_fits : ℕ → ℕ → ℕ → ℕ → ℕ → ℕ → Bool
out_fits blocks block left held announced residue =
    leb (block + left) blocks
    and eqb (held % 64) 0
    and ltb held block_size
    and leb (block_size * left) residue
    and leb residue announced

-- Bytes out of so many.
unfoldable pub in_fits : ℕ → ℕ → ℕ → ℕ → ℕ → Bool
in_fits size place left announced residue = leb (place + left) size and leb left residue and leb residue announced

unfoldable pub stage_fits : ℕ → Stage → ℕ → ℕ → Bool
stage_fits blocks Ready announced residue = true
stage_fits blocks (DataOut block left held) announced residue = out_fits blocks block left held announced residue
stage_fits blocks (DataIn place left) announced residue = in_fits (block_size * blocks) place left announced residue
stage_fits blocks (ReplyIn reply place left) announced residue = in_fits (reply_size (kind_of reply)) place left announced residue
stage_fits blocks (StatusDue status) announced residue = leb residue announced

-- The unit of the command in hand, which the record keeps, is in the table (document 02, A7); where none is, it is 0.
unfoldable pub task_fits : Table → Task → Bool
task_fits us t = in_table t.lun us and stage_fits (unit_at us t.lun).blocks t.stage t.announced t.residue

unfoldable pub fits : Identity → State → Table → Bool
fits i s us =
    laid_out us
    and switches_fit us
    and number_fits i.number
    and address_fits s.address
    and idle_fits s us
    and lock_fits s.link
    and task_fits us s.link.task
