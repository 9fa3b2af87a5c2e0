-- The table of logical units, and the part of the medium that each has.
use Rattle.std.specs.Prelude.{ℕ, ◌+◌, ◌*◌, Bool, true, List, [], ◌∷◌, map, leb, ltb, eqb, length, take, drop, get_or, set}
use Rattle.wire.specs.Choice.{◌and◌}
use Rattle.wire.specs.Slices.{placed}
use Rattle.scsi.specs.Sense.{no_sense}
use Rattle.scsi.specs.declared.sense.Sense.{Sense}
use Rattle.machine.specs.declared.record.LogicalUnit.{LogicalUnit}

-- "1 to 1,048,576 blocks" (document 01, amended by document 02, A5), of 512 bytes each; "the limit holds for each" unit (A7)
abbrev pub most_blocks : ℕ
most_blocks = 1048576

abbrev pub block_size : ℕ
block_size = 512

unfoldable pub size_fits : ℕ → Bool
size_fits n = leb 1 n and leb n most_blocks

-- ---- the table

-- The write switch's position: "0 open (as made) or 1 closed, all else .. being number 10" (document 02, A4)
unfoldable pub switch_fits : ℕ → Bool
switch_fits x = leb x 1

abbrev pub Table : Type 0
Table = List LogicalUnit

abbrev pub unit : ℕ → ℕ → Sense → ℕ → LogicalUnit
unit f n s x = record { first = f; blocks = n; sense = s; switch = x }

-- The unit of a number; beyond the table, one without blocks.
abbrev pub unit_at : Table → ℕ → LogicalUnit
unit_at us n = get_or us n (unit 0 0 no_sense 0)

abbrev pub in_table : ℕ → Table → Bool
in_table n us = ltb n (length us)

unfoldable pub with_sense : LogicalUnit → Sense → LogicalUnit
with_sense u s = unit u.first u.blocks s u.switch

-- "All command drops clear all senses." (document 02, A7) "No reset of any kind moves the switch." (A4)
abbrev pub unsensed : LogicalUnit → LogicalUnit
unsensed u = unit u.first u.blocks no_sense u.switch

unfoldable pub cleared : Table → Table
cleared us = map unsensed us

-- A closed switch protects its unit from being written.
unfoldable pub is_protected : LogicalUnit → Bool
is_protected u = eqb u.switch 1

-- Another position; the rest of the unit stays.
unfoldable pub with_switch : LogicalUnit → ℕ → LogicalUnit
with_switch u x = unit u.first u.blocks u.sense x

-- The switch of one unit; no other unit changes.
unfoldable pub switched_to : Table → ℕ → ℕ → Table
switched_to us x n = set us n (with_switch (unit_at us n) x)

-- The table as a making leaves one of these parts: every sense zero, every switch open.
abbrev pub unused : LogicalUnit → LogicalUnit
unused u = unit u.first u.blocks no_sense 0

unfoldable pub as_made : Table → Table
as_made us = map unused us

unfoldable pub every : (LogicalUnit → Bool) → Table → Bool
every test [] = true
every test (u ∷ us) = test u and every test us

abbrev pub switches_fit : Table → Bool
switches_fit us = every (λ u. switch_fits u.switch) us

-- ---- the parts of the medium

-- "It has 1 to 4 logical units" (document 02, A7)
abbrev pub most_units : ℕ
most_units = 4

unfoldable pub total : Table → ℕ
total [] = 0
total (u ∷ us) = u.blocks + total us

-- "parts .. following on from block 0", "the limit holds for each": each begins where the one before it ends.
unfoldable pub follow : ℕ → Table → Bool
follow n [] = true
follow n (u ∷ us) = eqb u.first n and size_fits u.blocks and follow (n + u.blocks) us

-- "A table not of 1 to 4 units, a unit's size outside the limit, or parts not following on from block 0, give 10"
unfoldable pub laid_out : Table → Bool
laid_out us = leb 1 (length us) and leb (length us) most_units and follow 0 us

-- "number 11 asks their sum"
unfoldable pub medium_fits : Table → List ℕ → Bool
medium_fits us m = eqb (length m) (block_size * total us)

-- The bytes that are a unit's own, and the medium with others there.
unfoldable pub part_of : LogicalUnit → List ℕ → List ℕ
part_of u m = take (block_size * u.blocks) (drop (block_size * u.first) m)

unfoldable pub with_part : LogicalUnit → List ℕ → List ℕ → List ℕ
with_part u m s = placed m (block_size * u.first) s
