-- What a quick way promises: where it answers, what it leaves is what the event leaves, over any table in which the unit lies at the place given; where it does not, nothing was done.
use Rattle.std.specs.Prelude.{ℕ, ◌+◌, ◌*◌, ◌≤◌, ◌≡◌, Bool, List, [], length, eqb, Option, Some, None}
use Rattle.wire.specs.Choice.{when◌then◌else◌, ◌and◌}
use Rattle.machine.specs.declared.show.Extent.TheVariants as extent
use Rattle.machine.specs.Units.{most_blocks, Table}
use Rattle.machine.specs.Machine.{bulk_out, bulk_in}
use Rattle.crecord.specs.declared.record.Given.{Given}
use Rattle.crecord.specs.declared.record.Flat as flats
use Rattle.crecord.specs.declared.record.Record.{Record}
use Rattle.crecord.specs.declared.record.Told as tolds
use Rattle.crecord.specs.declared.record.Shown as showns
use Rattle.crecord.specs.Flat.{rec, shown_as}
use Rattle.cevents.specs.declared.place.Place.{Place}
use Rattle.cevents.specs.Events.{left, on_record}
use Rattle.cevents.specs.Ways.{Whole, reads_on, read_on}

-- A place lies in the medium, and its unit is within the limit.
abbrev pub Inside : Place → ℕ → Type 0
Inside p medium = (512 * p.first + 512 * p.blocks ≤ medium) × (p.blocks ≤ most_blocks)

pub record QuickOut (h : Record) (place : Place) (m q : List ℕ) (r : Option tolds.Told) (h' : Record) (m' : List ℕ) : Type 0 where
  pub answers : (t : tolds.Told) → r ≡ Some t → (us : Table) → Whole us h.flat.lun (length m) place → left t h' us m' [] ≡ on_record h us m (bulk_out q)
  pub keeps : r ≡ None → (h' ≡ h) × (m' ≡ m)

pub record QuickIn (h : Record) (place : Place) (m b : List ℕ) (r : Option tolds.Told) (h' : Record) (b' : List ℕ) : Type 0 where
  pub answers : (t : tolds.Told) → r ≡ Some t → (us : Table) → Whole us h.flat.lun (length m) place → left t h' us m b' ≡ on_record h us m (bulk_in b)
  pub keeps : r ≡ None → (h' ≡ h) × (b' ≡ b)

-- A whole packet of a read, shown where it stands (document 02, A11). That this is what a showing call leaves is `quick-shows` in proofs/Shown.antt.
unfoldable pub shows_on : Given → flats.Flat → ℕ → ℕ → Bool
shows_on g f blocks reply = eqb reply 0 and reads_on g f blocks 64

unfoldable pub quick_shown : Record → Place → ℕ → Option showns.Shown
quick_shown h place reply =
    when shows_on h.given h.flat place.blocks reply
    then Some (shown_as 0 64 (extent.Medium (512 * place.first + h.flat.place) 64))
    else None

unfoldable pub quick_left : Record → Place → ℕ → Record
quick_left h place reply = when shows_on h.given h.flat place.blocks reply then rec h.given (read_on h.flat) h.part else h
