-- A collector with what is lent to it throughout, and what an event leaves.
use Rattle.std.specs.Prelude.{ℕ, Bool, List, [], length, set}
use Rattle.wire.specs.Slices.{zeros, placed}
use Rattle.machine.specs.declared.record.LogicalUnit.{LogicalUnit}
use Rattle.machine.specs.declared.record.State.{State}
use Rattle.machine.specs.declared.record.Device.{Device}
use Rattle.machine.specs.declared.answer.Answer.{Answer}
use Rattle.machine.specs.declared.answer.Answer.TheVariants.{Data}
use Rattle.machine.specs.Units.{block_size, Table, unit_at, cleared, switched_to, part_of, with_part}
use Rattle.machine.specs.Record.{device, with_state, dropped_state}

-- The record, the table of units and the medium.
pub record World : Type 0 where
  pub dev : Device
  pub units : Table
  pub medium : List ℕ

abbrev pub world : Device → Table → List ℕ → World
world d us m = record { dev = d; units = us; medium = m }

-- Only the state changes.
abbrev pub in_state : World → State → World
in_state w s = world (with_state w.dev s) w.units w.medium

-- "Dropping the command": the state, the part block all zeros, every sense 00/00/00.
unfoldable pub dropped : World → ℕ → Bool → Bool → Bool → World
dropped w a c hi ho = world (device w.dev.identity (dropped_state a c hi ho) (zeros block_size)) (cleared w.units) w.medium

-- "a fifth event sets it to either" (document 02, A4): of the unit that it names (A7)
abbrev pub switched : World → ℕ → ℕ → World
switched w x n = world w.dev (switched_to w.units x n) w.medium

-- All that an event leaves: its answer, the world, and the buffer that it lent, empty where it lends none.
pub record Out : Type 0 where
  pub answer : Answer
  pub world : World
  pub buffer : List ℕ

abbrev pub out : Answer → World → List ℕ → Out
out a w b = record { answer = a; world = w; buffer = b }

-- "first n bytes of the lent buffer written, the rest kept"
abbrev pub sends : List ℕ → World → List ℕ → Out
sends s w b = out (Data (length s)) w (placed b 0 s)

-- ---- within one unit

-- What is left where the unit and its own part of the medium are all that is in sight.
pub record UnitOut : Type 0 where
  pub answer : Answer
  pub dev : Device
  pub unit : LogicalUnit
  pub medium : List ℕ

abbrev pub unit_out : Answer → Device → LogicalUnit → List ℕ → UnitOut
unit_out a d u m = record { answer = a; dev = d; unit = u; medium = m }

-- "Every block outside the addressed unit keeps its bytes." (document 02, A7) No buffer is lent.
unfoldable pub in_unit : World → ℕ → (Device → LogicalUnit → List ℕ → UnitOut) → Out
in_unit w n f =
    let u = unit_at w.units n in
    let r = f w.dev u (part_of u w.medium) in
    out r.answer (world r.dev (set w.units n r.unit) (with_part u w.medium r.medium)) []
