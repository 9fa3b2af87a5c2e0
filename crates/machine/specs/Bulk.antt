-- Bulk packets (document 01, "Wrappers" and "The thirteen meetings of host and device"), once their checks are passed.
use Rattle.std.specs.Prelude.{ℕ, ◌+◌, ◌*◌, ◌-◌, min, Bool, true, List, [], leb, ltb, eqb, length, take, drop, set, Option, Some, None}
use Rattle.wire.specs.Choice.{when◌then◌else◌}
use Rattle.wire.specs.Slices.{zeros, placed}
use Rattle.scsi.specs.Reply.{reply_data}
use Rattle.scsi.specs.Sense.{data_phase}
use Rattle.bot.specs.Csw.{csw_bytes}
use Rattle.bot.specs.declared.csw.Csw.{Csw}
use Rattle.bot.specs.declared.csw.Status.{Status}
use Rattle.bot.specs.declared.csw.Status.TheVariants.{Passed, Failed, PhaseError}
use Rattle.machine.specs.declared.record.LogicalUnit.{LogicalUnit}
use Rattle.machine.specs.declared.record.Stage.{Stage}
use Rattle.machine.specs.declared.record.Stage.TheVariants.{Ready, DataOut, DataIn, ReplyIn, StatusDue}
use Rattle.machine.specs.declared.record.Task.{Task}
use Rattle.machine.specs.declared.record.State.{State}
use Rattle.machine.specs.declared.record.Device.{Device}
use Rattle.machine.specs.declared.wrapper.Wrapper.{Wrapper}
use Rattle.machine.specs.declared.ask.Source.{Source}
use Rattle.machine.specs.declared.ask.Source.TheVariants as source
use Rattle.machine.specs.declared.ask.Asked.{Asked}
use Rattle.machine.specs.declared.ask.Asked.TheVariants.{Quiet, Packet}
use Rattle.machine.specs.declared.answer.Answer.TheVariants.{Ack, Nak, Stall}
use Rattle.machine.specs.Units.{block_size, unit_at, with_sense, part_of}
use Rattle.machine.specs.Record.{device, task, no_task, with_halts, moved, with_state}
use Rattle.machine.specs.World.{World, world, in_state, Out, out, sends, UnitOut, unit_out, in_unit}
use Rattle.machine.specs.Wrapper.{wrapper_of}
use Rattle.machine.specs.Begin.{begun, begun_unit}

abbrev pub packet_size : ℕ
packet_size = 64

-- ---- bulk-out

-- "locks the device: it answers stall, halts both pipes"
unfoldable pub locked_state : State → State
locked_state s = with_halts s true true true

unfoldable pub on_wrapper : Option Wrapper → World → Out
on_wrapper None w = out Stall (in_state w (locked_state w.dev.state)) []
on_wrapper (Some x) w =
    let u = unit_at w.units x.header.lun in
    out Ack (world (with_state w.dev (begun x.header x.plan w.dev.state u)) (set w.units x.header.lun (begun_unit x.header x.plan u)) w.medium) []

-- The task with another stage and residue.
abbrev pub onward : State → Stage → ℕ → Task
onward s g r = task g s.link.task.lun s.link.task.tag s.link.task.announced r

-- "Data-out of any length but 64: its bytes and the part block dropped, bulk-out halted, status 2, sense 0B/4B/00."
unfoldable pub cut_state : State → State
cut_state s = moved s s.link.haltin true (onward s (StatusDue PhaseError) s.link.task.residue)

unfoldable pub cut_short : Device → Device
cut_short d = device d.identity (cut_state d.state) (zeros block_size)

-- A packet that does not fill its block.
unfoldable pub gathered_state : State → ℕ → ℕ → ℕ → State
gathered_state s block left held =
    moved s s.link.haltin s.link.haltout (onward s (DataOut block left (held + packet_size)) s.link.task.residue)

unfoldable pub gathered : Device → ℕ → ℕ → ℕ → List ℕ → Device
gathered d block left held p = device d.identity (gathered_state d.state block left held) (placed d.part held p)

-- After a whole block: the next one is due, or the status; the table's halt comes if some of the announced length is left.
unfoldable pub next_out : ℕ → ℕ → Stage
next_out block left = when leb left 1 then StatusDue Passed else DataOut (block + 1) (left - 1) 0

unfoldable pub halt_at_end : Bool → ℕ → Bool → Bool
halt_at_end last residue before = when last then (when ltb 0 residue then true else before) else before

unfoldable pub stored_state : State → ℕ → ℕ → State
stored_state s block left =
    let r = s.link.task.residue - block_size in
    moved s s.link.haltin (halt_at_end (leb left 1) r s.link.haltout) (onward s (next_out block left) r)

unfoldable pub stored_block : Device → ℕ → ℕ → Device
stored_block d block left = device d.identity (stored_state d.state block left) (zeros block_size)

-- Of one unit: m is its own part of the medium, and the block's number is the unit's own.
unfoldable pub on_data : ℕ → ℕ → ℕ → List ℕ → Device → LogicalUnit → List ℕ → UnitOut
on_data block left held p d u m =
    when eqb (length p) packet_size
    then (when ltb (held + packet_size) block_size
    then unit_out Ack (gathered d block left held p) u m
    else unit_out Ack (stored_block d block left) u (placed m (block_size * block) (placed d.part held p)))
    else unit_out Ack (cut_short d) (with_sense u data_phase) m

-- "bulk-out naks unless a wrapper or data is due"; a write with no block left has none due.
unfoldable pub out_stage : Stage → World → List ℕ → Out
out_stage Ready w p = on_wrapper (wrapper_of w.units p) w
out_stage (DataOut block left held) w p =
    when eqb left 0 then out Nak w [] else in_unit w w.dev.state.link.task.lun (on_data block left held p)
out_stage (DataIn place left) w p = out Nak w []
out_stage (ReplyIn reply place left) w p = out Nak w []
out_stage (StatusDue status) w p = out Nak w []

-- "Once the checks are passed, a halted pipe stalls, before any other rule."
unfoldable pub packet_out : World → List ℕ → Out
packet_out w p = when w.dev.state.link.haltout then out Stall w [] else out_stage w.dev.state.link.task.stage w p

-- ---- bulk-in: what an ask comes to, and then the bytes

-- The state once n bytes are handed out, of which these were the last or not; "Data-in packets hold min(64, what is left)".
unfoldable pub next_in : ℕ → Stage → Stage
next_in left more = when leb left packet_size then StatusDue Passed else more

unfoldable pub handed_state : State → ℕ → ℕ → Stage → State
handed_state s n left more =
    let r = s.link.task.residue - n in
    moved s (halt_at_end (leb left packet_size) r s.link.haltin) s.link.haltout (onward s (next_in left more) r)

-- The next packet of a source; none, where nothing is left of it.
unfoldable pub next_packet : State → ℕ → Source → Stage → Asked
next_packet s left x more = when eqb left 0 then Quiet Nak else Packet x (handed_state s (min packet_size left) left more)

-- "After status 0 or 1 a wrapper is due." "A handed-out phase error status, answered 0, locks it too."
unfoldable pub after_status : Status → State → State
after_status Passed s = moved s s.link.haltin s.link.haltout no_task
after_status Failed s = moved s s.link.haltin s.link.haltout no_task
after_status PhaseError s = locked_state (moved s s.link.haltin s.link.haltout no_task)

abbrev pub csw_of : Task → Status → Csw
csw_of t status = record { tag = t.tag; residue = t.residue; status = status }

-- "bulk-in [naks] unless data or status is due"
unfoldable pub ask_stage : Stage → State → Asked
ask_stage Ready s = Quiet Nak
ask_stage (DataOut block left held) s = Quiet Nak
ask_stage (DataIn place left) s =
    next_packet s left (source.Medium place (min packet_size left)) (DataIn (place + packet_size) (left - packet_size))
ask_stage (ReplyIn reply place left) s =
    next_packet s left (source.Reply reply place (min packet_size left)) (ReplyIn reply (place + packet_size) (left - packet_size))
ask_stage (StatusDue status) s = Packet (source.Status (csw_of s.link.task status)) (after_status status s)

unfoldable pub ask : State → Asked
ask s = when s.link.haltin then Quiet Stall else ask_stage s.link.task.stage s

-- The bytes where they stand: a unit's in its own part of the medium.
unfoldable pub bytes_of : Source → World → List ℕ
bytes_of (source.Medium place n) w = take n (drop place (part_of (unit_at w.units w.dev.state.link.task.lun) w.medium))
bytes_of (source.Reply reply place n) w = take n (drop place (reply_data w.dev.identity.number reply))
bytes_of (source.Status csw) w = csw_bytes csw

unfoldable pub deliver : Asked → World → List ℕ → Out
deliver (Quiet a) w b = out a w b
deliver (Packet x s) w b = sends (bytes_of x w) (in_state w s) b

unfoldable pub packet_in : World → List ℕ → Out
packet_in w b = deliver (ask w.dev.state) w b
