-- What an exported function answers and leaves: the machine's step on the record that C's numbers stand for, over the table and the medium that are lent
-- beside it.
use Rattle.std.specs.Prelude.{ℕ, List}
use Rattle.wire.specs.Choice.{when◌then◌else◌}
use Rattle.usb.specs.declared.descriptor.Identity.{Identity}
use Rattle.machine.specs.Units.{Table}
use Rattle.machine.specs.Making.{ToldMade, make, told_made}
use Rattle.machine.specs.World.{world}
use Rattle.machine.specs.Machine.{Event, lent, Told, told, step}
use Rattle.crecord.specs.declared.record.Record.{Record}
use Rattle.crecord.specs.declared.record.Told as tolds
use Rattle.crecord.specs.Flat.{decodes, world_from, record_of, answer}

-- All that a call leaves.
pub record Left : Type 0 where
  pub told : tolds.Told
  pub rec : Record
  pub units : Table
  pub medium : List ℕ
  pub buffer : List ℕ

abbrev pub left : tolds.Told → Record → Table → List ℕ → List ℕ → Left
left t r us m b = record { told = t; rec = r; units = us; medium = m; buffer = b }

abbrev pub leaves : Told → Left
leaves t = left (answer t.number t.count) (record_of t.world) t.world.units t.world.medium t.buffer

-- Numbers that stand for no record are answered 10 and left as they were.
unfoldable pub on_record : Record → Table → List ℕ → Event → Left
on_record r us m e =
    when decodes r.flat
    then leaves (told (step (world_from r us m) e))
    else left (answer 10 0) r us m (lent e)

-- Making: 1, 10, 11 or 15, the record and the table.
pub record LeftMade : Type 0 where
  pub told : tolds.Told
  pub rec : Record
  pub units : Table

abbrev pub left_made : tolds.Told → Record → Table → LeftMade
left_made t r us = record { told = t; rec = r; units = us }

abbrev pub leaves_made : ToldMade → List ℕ → LeftMade
leaves_made t m = left_made (answer t.number 0) (record_of (world t.dev t.units m)) t.units

unfoldable pub on_making : Identity → Table → List ℕ → LeftMade
on_making i us m = leaves_made (told_made (make i us m)) m
