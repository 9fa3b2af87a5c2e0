-- The specification machine: the checks, one event, a list of events.
use Rattle.std.specs.Prelude.{ℕ, Bool, true, false, List, [], ◌∷◌, leb, eqb, length, Result, Ok, Err}
use Rattle.wire.specs.Choice.{◌and◌}
use Rattle.usb.specs.Request.{request_of}
use Rattle.machine.specs.declared.answer.Answer.{Answer}
use Rattle.machine.specs.declared.answer.Answer.TheVariants.{Ack, Silent, Refused}
use Rattle.machine.specs.declared.answer.Refusal.TheVariants as refusal
use Rattle.machine.specs.declared.checks.Checks.{Checks}
use Rattle.machine.specs.Answer.{number_of, count_of}
use Rattle.machine.specs.Units.{Table, in_table, switch_fits, medium_fits}
use Rattle.machine.specs.Fits.{fits}
use Rattle.machine.specs.World.{World, switched, Out, out}
use Rattle.machine.specs.Control.{reset, perform}
use Rattle.machine.specs.Bulk.{packet_size, packet_out, packet_in}

-- "bus reset, a control request (8 setup bytes), a bulk-out packet, an ask for a bulk-in packet", each with the buffer that it lends; and "a fifth event", which
-- sets a write switch to a position (document 02, A4): "the switch event names its unit in a second body byte" (A7).
pub data Event : Type 0 where
  bus_reset : Event
  control : List ℕ → List ℕ → Event
  bulk_out : List ℕ → Event
  bulk_in : List ℕ → Event
  set_switch : ℕ → ℕ → Event

-- The buffer that an event lends; none counts as empty.
unfoldable pub lent : Event → List ℕ
lent bus_reset = []
lent (control s b) = b
lent (bulk_out p) = []
lent (bulk_in b) = b
lent (set_switch x n) = []

-- ---- the checks, in their order: "10, 11, 12, 13, 14, 4, each only where the event has that input"; "18, checked last" (document 02, A7)

abbrev pub fitting : World → Bool
fitting w = fits w.dev.identity w.dev.state w.units

unfoldable pub checks : World → Event → Checks
checks w bus_reset = record { fits = fitting w; medium = true; buffer = true; packet = true; setup = true; configured = true; unit = true }
checks w (control s b) =
    record { fits = fitting w; medium = true; buffer = leb packet_size (length b); packet = true; setup = eqb (length s) 8; configured = true; unit = true }
checks w (bulk_out p) =
    record {
      fits = fitting w;
      medium = medium_fits w.units w.medium;
      buffer = true;
      packet = leb (length p) packet_size;
      setup = true;
      configured = w.dev.state.configured;
      unit = true;
    }
checks w (bulk_in b) =
    record {
      fits = fitting w;
      medium = medium_fits w.units w.medium;
      buffer = leb packet_size (length b);
      packet = true;
      setup = true;
      configured = w.dev.state.configured;
      unit = true;
    }
-- "all else, in the event too, being number 10" (document 02, A4); "its unit .. beyond the table: 18" (A7)
checks w (set_switch x n) =
    record { fits = fitting w and switch_fits x; medium = true; buffer = true; packet = true; setup = true; configured = true; unit = in_table n w.units }

-- The event goes on, or ends with this answer.
abbrev pub Verdict : Type 0
Verdict = Result (Unit {0}) Answer

-- The answer of the first test that fails, or none.
unfoldable pub check : Bool → Answer → Verdict → Verdict
check true a v = v
check false a v = Err a

unfoldable pub in_order : Checks → Verdict
in_order c =
    check c.fits (Refused refusal.Record)
    (check c.medium (Refused refusal.Medium)
    (check c.buffer (Refused refusal.Buffer)
    (check c.packet (Refused refusal.Packet)
    (check c.setup (Refused refusal.Setup)
    (check c.configured Silent
    (check c.unit (Refused refusal.Unit) (Ok tt)))))))

-- ---- one event

-- Once the checks are passed.
unfoldable pub effect : World → Event → Out
effect w bus_reset = out Ack (reset w) []
effect w (control s b) = perform (request_of s) w b
effect w (bulk_out p) = packet_out w p
effect w (bulk_in b) = packet_in w b
effect w (set_switch x n) = out Ack (switched w x n) []

-- A refusal changes nothing.
unfoldable pub judged : Verdict → World → List ℕ → Out → Out
judged (Ok u) w b o = o
judged (Err a) w b o = out a w b

unfoldable pub step : World → Event → Out
step w e = judged (in_order (checks w e)) w (lent e) (effect w e)

-- The same by document 01's numbers: what the contracts say.
pub record Told : Type 0 where
  pub number : ℕ
  pub count : ℕ
  pub world : World
  pub buffer : List ℕ

abbrev pub told : Out → Told
told o = record { number = number_of o.answer; count = count_of o.answer; world = o.world; buffer = o.buffer }

-- ---- a list of events

-- What is seen of one event: its answer, the buffer that it lent, the table and the medium after it.
pub record Seen : Type 0 where
  pub answer : Answer
  pub buffer : List ℕ
  pub units : Table
  pub medium : List ℕ

abbrev pub seen : Out → Seen
seen o = record { answer = o.answer; buffer = o.buffer; units = o.world.units; medium = o.world.medium }

pub record Run : Type 0 where
  pub replies : List Seen
  pub world : World

unfoldable pub run : World → List Event → Run
run w [] = record { replies = []; world = w }
run w (e ∷ es) =
    let o : Out = step w e in
    let r : Run = run o.world es in
    record { replies = seen o ∷ r.replies; world = r.world }
