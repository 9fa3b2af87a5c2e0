-- The halt that the thirteen cases put after data is the one that the device makes: "The table's halts begin once the device's data is done". Proved in proofs/Halts.antt.
use Rattle.std.specs.Prelude.{ℕ, ◌*◌, ◌-◌, ◌≡◌, Bool, true, false, List, ltb, length}
use Rattle.scsi.specs.declared.command.Plan.{Plan}
use Rattle.bot.specs.declared.cbw.Header.{Header}
use Rattle.cases.specs.Cases.{case_of}
use Rattle.cases.specs.Claims.{is_after_data}
use Rattle.cases.specs.declared.Transfer.{Transfer}
use Rattle.cases.specs.declared.Transfer.TheVariants.{None, In, Out}
use Rattle.machine.specs.declared.record.Stage.{Stage}
use Rattle.machine.specs.declared.record.Stage.TheVariants.{Ready, DataOut, DataIn, ReplyIn, StatusDue}
use Rattle.machine.specs.declared.record.Task.{Task}
use Rattle.machine.specs.declared.record.State.{State}
use Rattle.machine.specs.declared.record.LogicalUnit.{LogicalUnit}
use Rattle.machine.specs.Units.{block_size}
use Rattle.machine.specs.World.{World}
use Rattle.machine.specs.Begin.{host_of, has_of, begun}
use Rattle.machine.specs.Bulk.{packet_size, packet_out, packet_in}
use Rattle.machine.specs.Machine.{fitting}

-- Bytes still due of a stage's data, and the residue that will be left once they have moved.
unfoldable pub due : Stage → ℕ
due Ready = 0
due (DataOut block left held) = block_size * left
due (DataIn place left) = left
due (ReplyIn reply place left) = left
due (StatusDue status) = 0

abbrev pub residue_at_end : Task → ℕ
residue_at_end t = t.residue - due t.stage

unfoldable pub moves : Transfer → Bool
moves None = false
moves (In n) = true
moves (Out n) = true

unfoldable pub is_sending : Stage → Bool
is_sending Ready = false
is_sending (DataOut block left held) = false
is_sending (DataIn place left) = ltb 0 left
is_sending (ReplyIn reply place left) = ltb 0 left
is_sending (StatusDue status) = false

unfoldable pub is_taking : Stage → Bool
is_taking Ready = false
is_taking (DataOut block left held) = ltb 0 left
is_taking (DataIn place left) = false
is_taking (ReplyIn reply place left) = false
is_taking (StatusDue status) = false

unfoldable pub is_status_due : Stage → Bool
is_status_due Ready = false
is_status_due (DataOut block left held) = false
is_status_due (DataIn place left) = false
is_status_due (ReplyIn reply place left) = false
is_status_due (StatusDue status) = true

-- A packet of data leaves the residue at the end as it was, and the last one halts its pipe exactly if that is over 0.
pub record GoesOn (before after : Task) (halted : Bool) : Type 0 where
  pub same : residue_at_end after ≡ residue_at_end before
  pub ends : is_status_due after.stage ≡ true → halted ≡ ltb 0 (residue_at_end before)

pub record HaltAfterData : Type 0 where
  -- A wrapper whose data moves: its case halts after data exactly if the residue at the end is over 0.
  pub begins : (h : Header) (p : Plan) (s : State) (u : LogicalUnit) → moves (case_of (host_of h) (has_of p)).moves ≡ true
      → is_after_data (case_of (host_of h) (has_of p)).halt ≡ ltb 0 (residue_at_end (begun h p s u).link.task)
  pub sends : (w : World) (b : List ℕ) → fitting w ≡ true → w.dev.state.link.haltin ≡ false → is_sending w.dev.state.link.task.stage ≡ true
      → GoesOn w.dev.state.link.task (packet_in w b).world.dev.state.link.task (packet_in w b).world.dev.state.link.haltin
  pub takes : (w : World) (p : List ℕ) → fitting w ≡ true → w.dev.state.link.haltout ≡ false → is_taking w.dev.state.link.task.stage ≡ true
      → length p ≡ packet_size
      → GoesOn w.dev.state.link.task (packet_out w p).world.dev.state.link.task (packet_out w p).world.dev.state.link.haltout
