-- What is sent of a reply or product page (document 02, A2): the first min(allocated, size) bytes of the whole; of page 80, the serial that USB tells. Proved in proofs/Sent.antt.
use Rattle.std.specs.Prelude.{ℕ, ◌-◌, ◌≤◌, ◌<◌, min, ◌≡◌, true, false, List, length, take, drop}
use Rattle.wire.specs.Slices.{placed}
use Rattle.scsi.specs.Command.{cut}
use Rattle.scsi.specs.Page.{page_data}
use Rattle.scsi.specs.Reply.{reply_data}
use Rattle.scsi.specs.declared.page.Page.TheVariants as page
use Rattle.scsi.specs.declared.reply.ReplyKind.{ReplyKind}
use Rattle.bot.specs.Cbw.{header_of}
use Rattle.bot.specs.declared.csw.Status.TheVariants.{Passed}
use Rattle.usb.specs.Descriptor.{string_descriptor, descriptor_data}
use Rattle.usb.specs.declared.descriptor.Identity.{Identity}
use Rattle.usb.specs.declared.descriptor.Descriptor.TheVariants as descriptor
use Rattle.machine.specs.declared.record.Stage.TheVariants.{StatusDue}
use Rattle.machine.specs.declared.answer.Answer.TheVariants.{Data}
use Rattle.machine.specs.Units.{unit_at}
use Rattle.machine.specs.Record.{task}
use Rattle.machine.specs.World.{World, Out}
use Rattle.machine.specs.Begin.{reply_of}
use Rattle.machine.specs.Bulk.{packet_size}
use Rattle.machine.specs.Machine.{bulk_out, bulk_in, step}
use Rattle.machine.specs.Beside.{Accepts}

-- The whole of a reply to the wrapper p taken now.
abbrev pub whole : World → List ℕ → ReplyKind → List ℕ
whole w p k = reply_data w.dev.identity.number (reply_of k (unit_at w.units (header_of p).lun))

abbrev pub first : ℕ → List ℕ → List ℕ
first allocated s = take (min allocated (length s)) s

-- A wrapper is due, and this one is accepted: it has a reply, cut to so many bytes.
abbrev pub Asks : World → List ℕ → ReplyKind → ℕ → Type 0
Asks w p k allocated = Accepts w p (cut k allocated)

-- Bulk-in is not halted, and no fewer bytes are announced inward than these.
pub record Takes (w : World) (p s : List ℕ) : Type 0 where
  pub haltin : w.dev.state.link.haltin ≡ false
  pub inward : (header_of p).inward ≡ true
  pub room : length s ≤ (header_of p).announced

-- These bytes are in the buffer, the residue is less by them, and nothing but the status follows.
pub record Sends (o : Out) (s b : List ℕ) (announced : ℕ) : Type 0 where
  pub answer : o.answer ≡ Data (length s)
  pub buffer : o.buffer ≡ placed b 0 s
  pub residue : o.world.dev.state.link.task.residue ≡ announced - length s
  pub over : o.world.dev.state.link.task.stage ≡ StatusDue Passed

pub record CutReplies : Type 0 where
  pub some : (w : World) (p b : List ℕ) (k : ReplyKind) (allocated : ℕ) → Asks w p k allocated → Takes w p (first allocated (whole w p k)) → 0 < allocated → packet_size ≤ length b
      → Sends (step (step w (bulk_out p)).world (bulk_in b)) (first allocated (whole w p k)) b (header_of p).announced
  -- Allocation length 0: no data, whatever is announced. The status is due at once, and the residue is all that was announced.
  pub none : (w : World) (p : List ℕ) (k : ReplyKind) → Asks w p k 0
      → (step w (bulk_out p)).world.dev.state.link.task
      ≡ task (StatusDue Passed) (header_of p).lun (header_of p).tag (header_of p).announced (header_of p).announced

-- "Page 80 carries the same twelve digits as the USB string": all that follows its four bytes in front.
abbrev pub SameSerial : Type 0
SameSerial = (i : Identity) → descriptor_data descriptor.Serial i ≡ string_descriptor (drop 4 (page_data i.number page.Serial))
