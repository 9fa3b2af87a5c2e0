-- What the exported showing call leaves, and the reply that is lent to it (document 02, A11): machine/specs/Show.antt on the record that C's numbers stand for.
use Rattle.std.specs.Prelude.{ℕ, List}
use Rattle.wire.specs.Choice.{when◌then◌else◌}
use Rattle.machine.specs.declared.show.Extent.TheVariants as extent
use Rattle.machine.specs.Units.{Table}
use Rattle.machine.specs.Machine.{Told, told}
use Rattle.machine.specs.Show.{ToldShown, told_shown, show, give_reply}
use Rattle.crecord.specs.declared.record.Record.{Record}
use Rattle.crecord.specs.declared.record.Told as tolds
use Rattle.crecord.specs.declared.record.Shown as showns
use Rattle.crecord.specs.Flat.{decodes, world_from, record_of, answer, shown_as}

-- All that a showing call leaves; table and medium are lent for reading.
pub record LeftShown : Type 0 where
  pub shown : showns.Shown
  pub rec : Record
  pub units : Table
  pub medium : List ℕ

abbrev pub left_shown : showns.Shown → Record → Table → List ℕ → LeftShown
left_shown o r us m = record { shown = o; rec = r; units = us; medium = m }

abbrev pub leaves_shown : ToldShown → LeftShown
leaves_shown t = left_shown (shown_as t.number t.count t.at) (record_of t.world) t.world.units t.world.medium

-- Numbers that stand for no record are answered 10 and left as they were.
unfoldable pub show_on_record : Record → Table → List ℕ → List ℕ → LeftShown
show_on_record r us m s =
    when decodes r.flat
    then leaves_shown (told_shown (show (world_from r us m) s))
    else left_shown (shown_as 10 0 extent.Nowhere) r us m

-- ---- the record's reply: its number and count, and the buffer. The record is lent for reading.

pub record LeftReply : Type 0 where
  pub told : tolds.Told
  pub buffer : List ℕ

abbrev pub left_reply : tolds.Told → List ℕ → LeftReply
left_reply t b = record { told = t; buffer = b }

abbrev pub leaves_reply : Told → LeftReply
leaves_reply t = left_reply (answer t.number t.count) t.buffer

unfoldable pub reply_on_record : Record → Table → List ℕ → List ℕ → LeftReply
reply_on_record r us m b = when decodes r.flat then leaves_reply (told (give_reply (world_from r us m) b)) else left_reply (answer 10 0) b
