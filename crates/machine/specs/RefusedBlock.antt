-- Which block was refused (document 02, A8). Proved in proofs/RefusedBlock.antt.
use Rattle.std.specs.Prelude.{ℕ, ◌≡◌, Bool, true, List, [], ◌∷◌, ◌++◌, eqb, leb}
use Rattle.wire.specs.Choice.{when◌then◌else◌}
use Rattle.wire.specs.Slices.{zeros}
use Rattle.scsi.specs.Sense.{is_out_of_range}
use Rattle.scsi.specs.declared.sense.Sense.{Sense}
use Rattle.scsi.specs.declared.command.Plan.TheVariants.{Failed}
use Rattle.scsi.specs.declared.reply.Reply.TheVariants as reply
use Rattle.bot.specs.Cbw.{header_of}
use Rattle.machine.specs.declared.record.Stage.TheVariants.{ReplyIn}
use Rattle.machine.specs.Units.{unit_at}
use Rattle.machine.specs.World.{World}
use Rattle.machine.specs.Machine.{Event, bus_reset, control, bulk_out, step}
use Rattle.machine.specs.Tally.{Making}
use Rattle.machine.specs.Claim.{setup, Makes, lived}
use Rattle.machine.specs.Beside.{Accepts}
use Rattle.machine.specs.Sheet.{Exchange, Row, row, test_unit_ready, on_blocks, answered, buffer, configure, command, status, senses, outside_data, Hold}

-- ---- a command that fails

-- A failed command leaves its sense, whatever it announced: a range failure its block too.
abbrev pub SenseLeft : Type 0
SenseLeft = (w : World) (p : List ℕ) (s : Sense) → Accepts w p (Failed s) → (unit_at (step w (bulk_out p)).world.units (header_of p).lun).sense ≡ s

-- ---- every list of events

-- A range failure carries a block outside the unit; another sense carries none.
unfoldable pub carries : ℕ → Sense → Bool
carries blocks s = when is_out_of_range s then leb blocks s.information else eqb s.information 0

-- Of every sense that a collector comes to hold: each unit's, and the one that a Request Sense under way has found.
pub record Carries (w : World) : Type 0 where
  pub units : (n : ℕ) → carries (unit_at w.units n).blocks (unit_at w.units n).sense ≡ true
  pub found : (n : Sense) (place left : ℕ) → w.dev.state.link.task.stage ≡ ReplyIn (reply.Sense n) place left
      → carries (unit_at w.units w.dev.state.link.task.lun).blocks n ≡ true

abbrev pub BlocksCarried : Type 0
BlocksCarried = (k : Making) → Makes k → (es : List Event) → Carries (lived k es).world

-- ---- examples on the bench sheet's 128 blocks, as rows of its kind

-- A command on blocks that fails, nothing announced.
unfoldable pub refused : ℕ → ℕ → ℕ → List Exchange
refused code block count = configure ∷ command (on_blocks code block count) ∷ status 0 1 ∷ []

-- "Address 120, count 10, 128 blocks gives 00 00 00 80."
unfoldable pub paper : ℕ → List Exchange
paper code = refused code 120 10

abbrev pub paper_data : List ℕ
paper_data = outside_data (0x00 ∷ 0x00 ∷ 0x00 ∷ 0x80 ∷ [])

-- 00/00/00, and 05/20/00: "other senses keep 70 and zeros"
unfoldable pub no_data : List ℕ
no_data = 0x70 ∷ zeros 6 ++ 0x0A ∷ zeros 10

unfoldable pub code_data : List ℕ
code_data = 0x70 ∷ 0x00 ∷ 0x05 ∷ zeros 4 ++ 0x0A ∷ zeros 4 ++ 0x20 ∷ zeros 5

unfoldable pub examples : List Row
examples =
    -- Read, Write, Verify; told once
    row 42 1 (paper 0x28 ++ senses paper_data ++ senses no_data)
    ∷ row 42 1 (paper 0x2A ++ senses paper_data ++ senses no_data)
    ∷ row 42 1 (paper 0x2F ++ senses paper_data ++ senses no_data)
    -- the address, where it lies outside: also of no block, and where the sum passes 32 bits
    ∷ row 42 1 (refused 0x28 129 0 ++ senses (outside_data (0x00 ∷ 0x00 ∷ 0x00 ∷ 0x81 ∷ [])))
    ∷ row 42 1 (refused 0x28 0xFFFF_FFFF 0xFFFF ++ senses (outside_data (0xFF ∷ 0xFF ∷ 0xFF ∷ 0xFF ∷ [])))
    -- gone after a command that passed, and after another failure
    ∷ row 42 1 (paper 0x28 ++ command test_unit_ready ∷ status 0 0 ∷ senses no_data)
    ∷ row 42 1 (paper 0x28 ++ command (0xFF ∷ []) ∷ status 0 1 ∷ senses code_data)
    -- gone after each drop: Set Configuration, Mass Storage Reset, bus reset
    ∷ row 42 1 (paper 0x28 ++ configure ∷ senses no_data)
    ∷ row 42 1 (paper 0x28 ++ answered (control (setup 0x21 0xFF 0 0) buffer) 1 [] ∷ senses no_data)
    ∷ row 42 1 (paper 0x28 ++ answered bus_reset 1 [] ∷ configure ∷ senses no_data)
    ∷ []

abbrev pub ExamplesHold : Type 0
ExamplesHold = Hold examples
