-- The premises of the inner functions, which the events' checks establish.
use Rattle.std.specs.Prelude.{ℕ, ◌+◌, ◌*◌, ◌-◌, ◌≤◌, ◌<◌, ◌≡◌, true, List, length, take, drop}
use Rattle.scsi.specs.Reply.{reply_data}
use Rattle.scsi.specs.declared.reply.Reply as replies
use Rattle.machine.specs.declared.record.Stage.TheVariants.{DataIn, ReplyIn}
use Rattle.machine.specs.declared.record.State.{State}
use Rattle.machine.specs.declared.ask.Source.TheVariants as source
use Rattle.machine.specs.declared.ask.Asked.{Asked}
use Rattle.machine.specs.declared.ask.Asked.TheVariants.{Quiet, Packet}
use Rattle.machine.specs.Units.{block_size, most_blocks, Table, unit_at, laid_out, medium_fits}
use Rattle.machine.specs.Fits.{task_fits}

-- A state whose task fits a table, which is laid out over the medium.
pub record Sound (s : State) (us : Table) (m : List ℕ) : Type 0 where
  pub laid : laid_out us ≡ true
  pub running : task_fits us s.link.task ≡ true
  pub whole : medium_fits us m ≡ true

-- A write with a block due, in the unit's part of the medium.
pub record Gathering (s : State) (block left held : ℕ) (m : List ℕ) : Type 0 where
  pub within : block < most_blocks
  pub place : 512 * block + 512 ≤ length m
  pub room : held ≤ 448
  pub due : 512 ≤ s.link.task.residue

-- The same in the medium: the unit's part lies in it.
pub record Due (s : State) (us : Table) (block left held : ℕ) (m : List ℕ) : Type 0 where
  pub room : 512 * (unit_at us s.link.task.lun).first + 512 * (unit_at us s.link.task.lun).blocks ≤ length m
  pub write : block + left ≤ (unit_at us s.link.task.lun).blocks
  pub small : (unit_at us s.link.task.lun).blocks ≤ most_blocks
  pub some : 1 ≤ left
  pub part : held ≤ 448
  pub due : 512 ≤ s.link.task.residue

-- Bytes that are due lie in their source, and in the residue.
pub record Sending (place left size residue : ℕ) : Type 0 where
  pub within : place + left ≤ size
  pub due : left ≤ residue

-- A state whose bytes for the host lie within the size of the largest medium, so that the place after them is a u32.
pub record Askable (s : State) : Type 0 where
  pub medium : (place left : ℕ) → s.link.task.stage ≡ DataIn place left → Sending place left (block_size * most_blocks) s.link.task.residue
  pub reply : (r : replies.Reply) (place left : ℕ) → s.link.task.stage ≡ ReplyIn r place left → Sending place left (block_size * most_blocks) s.link.task.residue

-- The bytes from one place up to another, as a slice has them.
abbrev pub between : ℕ → ℕ → List ℕ → List ℕ
between a z s = take (z - a) (drop a s)

-- The bytes of a packet lie in their source: the part of the unit that the task names, or the reply.
abbrev pub Within : State → Table → Asked → Type 0
Within s us (Quiet a) = Unit {0}
Within s us (Packet (source.Medium place n) t) = place + n ≤ 512 * (unit_at us s.link.task.lun).blocks
Within s us (Packet (source.Reply r place n) t) = (k : ℕ) → place + n ≤ length (reply_data k r)
Within s us (Packet (source.Status c) t) = Unit {0}
