-- A packet shown where it already stands (document 02, A11), beside the copying call of Bulk.antt. The claim that they agree is in EitherCall.antt.
use Rattle.std.specs.Prelude.{ℕ, ◌+◌, ◌*◌, true, List, [], leb, length, take, Ok, Err}
use Rattle.wire.specs.Choice.{◌and◌}
use Rattle.wire.specs.Slices.{same, part}
use Rattle.scsi.specs.Reply.{reply_data}
use Rattle.usb.specs.declared.descriptor.Identity.{Identity}
use Rattle.machine.specs.declared.record.Stage.{Stage}
use Rattle.machine.specs.declared.record.Stage.TheVariants.{Ready, DataOut, DataIn, ReplyIn, StatusDue}
use Rattle.machine.specs.declared.record.State.{State}
use Rattle.machine.specs.declared.answer.Answer.{Answer}
use Rattle.machine.specs.declared.answer.Answer.TheVariants.{Data, Nak}
use Rattle.machine.specs.declared.checks.Checks.{Checks}
use Rattle.machine.specs.declared.ask.Source.{Source}
use Rattle.machine.specs.declared.ask.Source.TheVariants as source
use Rattle.machine.specs.declared.ask.Asked.{Asked}
use Rattle.machine.specs.declared.ask.Asked.TheVariants.{Quiet, Packet}
use Rattle.machine.specs.declared.show.Extent.{Extent}
use Rattle.machine.specs.declared.show.Extent.TheVariants as extent
use Rattle.machine.specs.Answer.{number_of, count_of}
use Rattle.machine.specs.Units.{block_size, Table, unit_at, medium_fits}
use Rattle.machine.specs.World.{World, in_state, Out, sends}
use Rattle.machine.specs.Bulk.{packet_size, ask}
use Rattle.machine.specs.Machine.{Verdict, fitting, in_order, judged}

-- ---- "the reply": what the caller lends

-- The whole reply of the running command, as its allocation length cut it: what was sent of it and what is due. Empty where none runs, "also with a status due".
unfoldable pub reply_at : ℕ → Stage → List ℕ
reply_at number Ready = []
reply_at number (DataOut block left held) = []
reply_at number (DataIn place left) = []
reply_at number (ReplyIn reply place left) = take (place + left) (reply_data number reply)
reply_at number (StatusDue status) = []

abbrev pub record_reply : Identity → State → List ℕ
record_reply i s = reply_at i.number s.link.task.stage

abbrev pub reply_of : World → List ℕ
reply_of w = record_reply w.dev.identity w.dev.state

-- ---- the checks: 10 ("a lent reply not the record's" too), 11, 4. No buffer is lent.

unfoldable pub show_checks : World → List ℕ → Checks
show_checks w r =
    record {
      fits = fitting w and same r (reply_of w);
      medium = medium_fits w.units w.medium;
      buffer = true;
      packet = true;
      setup = true;
      configured = w.dev.state.configured;
      unit = true;
    }

-- ---- what is shown

-- The bytes where they stand.
unfoldable pub bytes_shown : Extent → List ℕ → List ℕ → List ℕ
bytes_shown extent.Nowhere m r = []
bytes_shown (extent.Medium a n) m r = part m a n
bytes_shown (extent.Reply a n) m r = part r a n

-- All that a showing call leaves: its answer, the world, and where the packet stands. "Without data the part is empty."
pub record Shown : Type 0 where
  pub answer : Answer
  pub world : World
  pub at : Extent

abbrev pub shown : Answer → World → Extent → Shown
shown a w x = record { answer = a; world = w; at = x }

-- A place in a unit's own part of the medium, as a place in the medium.
abbrev pub in_medium : Table → ℕ → ℕ → ℕ
in_medium us lun place = block_size * (unit_at us lun).first + place

-- "shown where it already stands, in the medium or in the reply"; "with a status due, not halted: 2, nothing changed"
unfoldable pub show_from : Source → State → World → Shown
show_from (source.Medium place n) s w = shown (Data n) (in_state w s) (extent.Medium (in_medium w.units w.dev.state.link.task.lun place) n)
show_from (source.Reply reply place n) s w = shown (Data n) (in_state w s) (extent.Reply place n)
show_from (source.Status csw) s w = shown Nak w extent.Nowhere

unfoldable pub show_asked : Asked → World → Shown
show_asked (Quiet a) w = shown a w extent.Nowhere
show_asked (Packet x s) w = show_from x s w

unfoldable pub show_judged : Verdict → World → Shown
show_judged (Ok u) w = show_asked (ask w.dev.state) w
show_judged (Err a) w = shown a w extent.Nowhere

-- The showing call over a collector, lent a reply.
unfoldable pub show : World → List ℕ → Shown
show w r = show_judged (in_order (show_checks w r)) w

-- The same by document 01's numbers: what the contracts say.
pub record ToldShown : Type 0 where
  pub number : ℕ
  pub count : ℕ
  pub world : World
  pub at : Extent

abbrev pub told_shown : Shown → ToldShown
told_shown o = record { number = number_of o.answer; count = count_of o.answer; world = o.world; at = o.at }

-- ---- the reply, given to the caller that is to lend it

-- 10, 12; no medium is lent, and nothing is asked of the configuration.
unfoldable pub reply_checks : World → List ℕ → Checks
reply_checks w b =
    record { fits = fitting w; medium = true; buffer = leb packet_size (length b); packet = true; setup = true; configured = true; unit = true }

unfoldable pub give_reply : World → List ℕ → Out
give_reply w b = judged (in_order (reply_checks w b)) w b (sends (reply_of w) w b)
