-- Several units (document 02, A7): closed examples, as rows of the bench sheet's kind, and the tables that are refused. Proved in proofs/SeveralUnits.antt.
use Rattle.std.specs.Prelude.{ℕ, ◌+◌, ◌≡◌, List, [], ◌∷◌, ◌++◌, replicate}
use Rattle.wire.specs.Slices.{zeros}
use Rattle.scsi.specs.Sense.{no_sense, data_phase}
use Rattle.machine.specs.Answer.{number_of}
use Rattle.machine.specs.Units.{most_blocks, Table, unit}
use Rattle.machine.specs.Making.{make}
use Rattle.machine.specs.Machine.{bus_reset, control, set_switch}
use Rattle.machine.specs.Claim.{setup}
use Rattle.machine.specs.Sheet.{Exchange, Row, row, parts, identity, cbw, test_unit_ready, request_sense, read_capacity, on_blocks, answered, buffer, configure, sent, hands, status, locks, outside_data, HoldOver}
use Rattle.machine.specs.RefusedBlock.{no_data}

-- ---- commands for one of several units, with the sheet's tag

unfoldable pub for_unit : ℕ → ℕ → ℕ → List ℕ → Exchange
for_unit n flags announced block = sent (cbw 0x826A6008 announced flags n block) 1

-- Request Sense of the unit n, and the data that it must hand out.
unfoldable pub senses_of : ℕ → List ℕ → List Exchange
senses_of n s = for_unit n 0x80 18 request_sense ∷ hands s ∷ status 0 0 ∷ []

-- A Read of no block behind the unit n's end fails, and its sense is 05/21/00.
unfoldable pub fails_in : ℕ → List Exchange
fails_in n = for_unit n 0x00 0 (on_blocks 0x28 200 0) ∷ status 0 1 ∷ []

unfoldable pub outside200 : List ℕ
outside200 = outside_data (0x00 ∷ 0x00 ∷ 0x00 ∷ 0xC8 ∷ [])

-- Read Capacity of the unit n tells its own last block.
unfoldable pub last_block : ℕ → ℕ → List Exchange
last_block n last = for_unit n 0x80 8 read_capacity ∷ hands (0x00 ∷ 0x00 ∷ 0x00 ∷ last ∷ 0x00 ∷ 0x00 ∷ 0x02 ∷ 0x00 ∷ []) ∷ status 0 0 ∷ []

-- Get Max LUN.
unfoldable pub highest : ℕ → Exchange
highest n = answered (control (0xA1 ∷ 0xFE ∷ 0x00 ∷ 0x00 ∷ 0x00 ∷ 0x00 ∷ 0x01 ∷ 0x00 ∷ []) buffer) 0 (n ∷ [])

-- The first block of the unit n written with one byte throughout, and read back.
unfoldable pub writes : ℕ → ℕ → List Exchange
writes n x = for_unit n 0x00 512 (on_blocks 0x2A 0 1) ∷ replicate 8 (sent (replicate 64 x) 1) ++ status 0 0 ∷ []

unfoldable pub reads : ℕ → ℕ → List Exchange
reads n x = for_unit n 0x80 512 (on_blocks 0x28 0 1) ∷ replicate 8 (hands (replicate 64 x)) ++ status 0 0 ∷ []

-- ---- the examples

-- Three units, of 2, 1 and 4 blocks.
abbrev pub three : Table
three = parts 0 (2 ∷ 1 ∷ 4 ∷ [])

unfoldable pub examples : List Row
examples =
    -- "Get Max LUN answers the highest unit"; each unit has its own size
    row 42 1 (configure ∷ highest 2 ∷ last_block 0 1 ++ last_block 1 0 ++ last_block 2 3)
    -- "a wrapper for a unit beyond it locks"
    ∷ row 42 1 (locks (cbw 1 0 0x00 3 test_unit_ready))
    -- each has its own part of the medium
    ∷ row 42 1 (configure ∷ writes 2 9 ++ writes 1 7 ++ reads 0 0 ++ reads 2 9 ++ reads 1 7)
    -- a failure in unit 1 is told there, once, and nowhere else
    ∷ row 42 1 (configure ∷ fails_in 1 ++ senses_of 0 no_data ++ senses_of 2 no_data ++ senses_of 1 outside200 ++ senses_of 1 no_data)
    -- a command that passes in one unit leaves the other's sense
    ∷ row 42 1 (configure ∷ fails_in 1 ++ for_unit 0 0x00 0 test_unit_ready ∷ status 0 0 ∷ senses_of 1 outside200)
    -- "All command drops clear all senses."
    ∷ row 42 1 (configure ∷ fails_in 0 ++ fails_in 1 ++ fails_in 2 ++ configure ∷ senses_of 0 no_data ++ senses_of 1 no_data ++ senses_of 2 no_data)
    ∷ row 42 1 (configure ∷ fails_in 0 ++ fails_in 2 ++ answered (control (setup 0x21 0xFF 0 0) buffer) 1 [] ∷ senses_of 0 no_data ++ senses_of 2 no_data)
    ∷ row 42 1 (configure ∷ fails_in 1 ++ fails_in 2 ++ answered bus_reset 1 [] ∷ configure ∷ senses_of 1 no_data ++ senses_of 2 no_data)
    -- the switch of unit 1 alone: its Writes fail, the others' pass
    ∷ row 42 1 (configure ∷ answered (set_switch 1 1) 1 [] ∷ writes 0 5 ++ for_unit 1 0x00 0 (on_blocks 0x2A 0 1) ∷ status 0 1 ∷ writes 2 6)
    -- "beyond the table: 18, checked last"
    ∷ row 42 1 (answered (set_switch 1 3) 18 [] ∷ answered (set_switch 2 3) 10 [] ∷ answered (set_switch 0 255) 18 [] ∷ answered (set_switch 0 2) 1 [] ∷ [])
    ∷ []

-- ---- the tables that are refused, and in which order

-- What a making of the number 42 answers over a table, and a medium of so many bytes.
unfoldable pub making : Table → ℕ → ℕ
making us n = number_of (make (identity 42) us (zeros n)).answer

pub record SeveralUnits : Type 0 where
  pub rows : HoldOver three examples
  pub one : HoldOver (parts 0 (1 ∷ [])) (row 42 1 (configure ∷ highest 0 ∷ []) ∷ [])
  pub four : HoldOver (parts 0 (1 ∷ 1 ∷ 1 ∷ 1 ∷ [])) (row 42 1 (configure ∷ highest 3 ∷ []) ∷ [])
  -- "A table not of 1 to 4 units"
  pub none : making [] 0 ≡ 10
  pub five : making (parts 0 (1 ∷ 1 ∷ 1 ∷ 1 ∷ 1 ∷ [])) 2560 ≡ 10
  -- "a unit's size outside the limit"
  pub empty : making (parts 0 (1 ∷ 0 ∷ [])) 512 ≡ 10
  pub large : making (parts 0 (1 ∷ (most_blocks + 1) ∷ [])) 0 ≡ 10
  -- "or parts not following on from block 0"
  pub late : making (parts 1 (1 ∷ 1 ∷ [])) 1024 ≡ 10
  pub apart : making (unit 0 1 no_sense 0 ∷ unit 2 1 no_sense 0 ∷ []) 1536 ≡ 10
  -- "number 11 asks their sum"; 15 comes last
  pub short : making three 3072 ≡ 11
  pub whole : making three 3584 ≡ 1
  -- senses and switches are not looked at
  pub used : making (unit 0 1 data_phase 9 ∷ []) 512 ≡ 1
