-- The write switches (document 02, A4 and A7): the event that sets it, all others, and when a change counts. Proved in proofs/Switch.antt.
use Rattle.std.specs.Prelude.{ℕ, ◌≡◌, Bool, true, false, List, [], ◌∷◌, ◌++◌}
use Rattle.wire.specs.Choice.{when◌then◌else◌, ◌and◌}
use Rattle.wire.specs.Slices.{zeros}
use Rattle.machine.specs.declared.answer.Answer.TheVariants.{Ack, Refused}
use Rattle.machine.specs.declared.answer.Refusal.TheVariants as refusal
use Rattle.machine.specs.Units.{switch_fits, unit_at, in_table}
use Rattle.machine.specs.Fits.{is_ready}
use Rattle.machine.specs.World.{World, switched, Out, out}
use Rattle.machine.specs.Machine.{Event, bus_reset, control, bulk_out, bulk_in, set_switch, fitting, step}
use Rattle.machine.specs.Claim.{setup}
use Rattle.machine.specs.Sheet.{Exchange, Row, row, cbw, on_blocks, answered, buffer, configure, cleared, sent, command_in, hands, status, senses, outside_data, Hold}
use Rattle.machine.specs.RefusedBlock.{no_data}

-- ---- every step

unfoldable pub is_switch : Event → Bool
is_switch bus_reset = false
is_switch (control s b) = false
is_switch (bulk_out p) = false
is_switch (bulk_in b) = false
is_switch (set_switch x n) = true

-- The same outcome, but for the switch.
abbrev pub switched_out : Out → ℕ → ℕ → Out
switched_out o x n = out o.answer (switched o.world x n) o.buffer

pub record SwitchLaws : Type 0 where
  -- "a fifth event sets it to either and acks", whatever the collector is at; "all else .. being number 10"; "beyond the table: 18, checked last" (A7)
  pub sets : (w : World) (x n : ℕ)
      → step w (set_switch x n)
      ≡ (when fitting w and switch_fits x then (when in_table n w.units then out Ack (switched w x n) [] else out (Refused refusal.Unit) w []) else out (Refused refusal.Record) w [])
  -- "No reset of any kind moves the switch.": no other event does.
  pub kept : (w : World) (e : Event) → is_switch e ≡ false → (n : ℕ) → (unit_at (step w e).world.units n).switch ≡ (unit_at w.units n).switch
  -- "A change during a command counts from the next wrapper.": with a command in hand, its status included, each event is answered as without the change.
  pub later : (w : World) (x n : ℕ) (e : Event) → fitting w ≡ true → switch_fits x ≡ true → is_ready w.dev.state.link.task.stage ≡ false → is_switch e ≡ false
      → step (switched w x n) e ≡ switched_out (step w e) x n

-- ---- examples on the bench sheet's 128 blocks, as rows of its kind

unfoldable pub turn : ℕ → Exchange
turn x = answered (set_switch x 0) 1 []

abbrev pub opened : Exchange
opened = turn 0

abbrev pub closed : Exchange
closed = turn 1

-- A Write announcing data out.
unfoldable pub write : ℕ → ℕ → ℕ → Exchange
write block count announced = sent (cbw 0x826A6008 announced 0x00 0 (on_blocks 0x2A block count)) 1

-- Sense data of 07/27/00.
unfoldable pub protected_data : List ℕ
protected_data = 0x70 ∷ 0x00 ∷ 0x07 ∷ zeros 4 ++ 0x0A ∷ zeros 4 ++ 0x27 ∷ zeros 5

-- A Write of block 0, nothing announced, that fails.
unfoldable pub fails : List Exchange
fails = write 0 1 0 ∷ status 0 1 ∷ senses protected_data

-- A Write of no block that passes.
unfoldable pub passes : List Exchange
passes = write 0 0 0 ∷ status 0 0 ∷ []

unfoldable pub ask_mode : Exchange
ask_mode = command_in (0x1A ∷ 0x00 ∷ 0x3F ∷ 0x00 ∷ 0xC0 ∷ 0x00 ∷ []) 4

-- Mode Sense, and its third byte.
unfoldable pub mode : ℕ → List Exchange
mode third = ask_mode ∷ hands (0x03 ∷ 0x00 ∷ third ∷ 0x00 ∷ []) ∷ status 0 0 ∷ []

unfoldable pub examples : List Row
examples =
    -- a Write fails once the switch is closed; the sense is told once
    row 42 1 (configure ∷ closed ∷ fails ++ senses no_data)
    -- count 0 too: it passes as made, fails closed, and passes opened
    ∷ row 42 1 (configure ∷ passes ++ closed ∷ write 0 0 0 ∷ status 0 1 ∷ senses protected_data ++ opened ∷ passes)
    -- "checked after the range"
    ∷ row 42 1 (configure ∷ closed ∷ write 120 10 0 ∷ status 0 1 ∷ senses (outside_data (0x00 ∷ 0x00 ∷ 0x00 ∷ 0x80 ∷ [])))
    -- a failed Write has no data: bulk-out stalls
    ∷ row 42 1 (configure ∷ closed ∷ write 0 1 512 ∷ sent (zeros 64) 3 ∷ status 512 1 ∷ [])
    -- Mode Sense open and closed, and with a change between its wrapper and its data
    ∷ row 42 1 (configure ∷ mode 0x00 ++ closed ∷ mode 0x80 ++ opened ∷ mode 0x00)
    ∷ row 42 1 (configure ∷ ask_mode ∷ closed ∷ hands (0x03 ∷ 0x00 ∷ 0x00 ∷ 0x00 ∷ []) ∷ status 0 0 ∷ mode 0x80)
    -- the three resets
    ∷ row 42 1 (configure ∷ closed ∷ answered bus_reset 1 [] ∷ configure ∷ fails)
    ∷ row 42 1 (configure ∷ closed ∷ answered (control (setup 0x21 0xFF 0 0) buffer) 1 [] ∷ fails)
    ∷ row 42 1 (configure ∷ closed ∷ configure ∷ fails)
    -- set while not configured, and while locked
    ∷ row 42 1 (closed ∷ configure ∷ fails)
    ∷ row 42 1 (configure ∷ sent [] 3 ∷ closed ∷ answered (control (setup 0x21 0xFF 0 0) buffer) 1 [] ∷ cleared 0x81 ∷ cleared 0x02 ∷ fails)
    -- another position
    ∷ row 42 1 (configure ∷ answered (set_switch 2 0) 10 [] ∷ closed ∷ answered (set_switch 255 0) 10 [] ∷ fails)
    ∷ []

abbrev pub ExamplesHold : Type 0
ExamplesHold = Hold examples
