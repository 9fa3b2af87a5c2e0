-- The premises of the quick ways: a whole packet of a read, a whole packet of a write, and the status of a command that passed.
use Rattle.std.specs.Prelude.{ℕ, ◌+◌, ◌*◌, ◌-◌, ◌≤◌, ◌<◌, ◌≡◌, Bool, true, leb, eqb, length, Option, Some, None}
use Rattle.wire.specs.Choice.{when◌then◌else◌, ◌and◌}
use Rattle.machine.specs.Units.{Table, unit_at, in_table, switches_fit, total, laid_out}
use Rattle.machine.specs.Fits.{number_fits, out_fits, in_fits}
use Rattle.crecord.specs.declared.record.Given.{Given}
use Rattle.crecord.specs.declared.record.Flat as flats
use Rattle.cevents.specs.declared.place.Place.{Place}

-- Where unit n lies, in a table that has it and fits over a medium of this size.
abbrev pub found : Table → ℕ → Place
found us n = record { first = (unit_at us n).first; blocks = (unit_at us n).blocks }

unfoldable pub place_in : Table → ℕ → ℕ → Option Place
place_in us n medium =
    when in_table n us and laid_out us and switches_fit us and eqb medium (512 * total us) then Some (found us n) else None

-- The same as facts, of a place that is given.
pub record Whole (us : Table) (n medium : ℕ) (p : Place) : Type 0 where
  pub listed : n < length us
  pub laid : laid_out us ≡ true
  pub switches : switches_fit us ≡ true
  pub whole : medium ≡ 512 * total us
  pub first : p.first ≡ (unit_at us n).first
  pub blocks : p.blocks ≡ (unit_at us n).blocks

-- Configured, no pipe halted, and without the number that only a sense on its way has.
pub record Free (g : Given) (f : flats.Flat) : Type 0 where
  pub flags : f.flags ≡ 1
  pub extra : f.extra ≡ 0
  pub address : f.address ≤ 0x7F
  pub number : number_fits g.number ≡ true

unfoldable pub is_free : Given → flats.Flat → Bool
is_free g f = eqb f.flags 1 and eqb f.extra 0 and leb f.address 0x7F and number_fits g.number

-- A read is under way, and its numbers fit.
unfoldable pub is_reading : Given → flats.Flat → ℕ → Bool
is_reading g f blocks = eqb f.stage 2 and eqb f.value 0 and in_fits (512 * blocks) f.place f.left f.announced f.residue and is_free g f

-- The last packet is one that leaves no residue: otherwise a halt comes.
pub record ReadsOn (g : Given) (f : flats.Flat) (blocks buffer : ℕ) : Type 0 where
  pub free : Free g f
  pub stage : f.stage ≡ 2
  pub value : f.value ≡ 0
  pub packet : 64 ≤ f.left
  pub last : f.left ≡ 64 → f.residue ≡ 64
  pub running : in_fits (512 * blocks) f.place f.left f.announced f.residue ≡ true
  pub room : 64 ≤ buffer

unfoldable pub reads_on : Given → flats.Flat → ℕ → ℕ → Bool
reads_on g f blocks buffer =
    is_free g f
    and eqb f.stage 2
    and eqb f.value 0
    and leb 64 f.left
    and (when eqb f.left 64 then eqb f.residue 64 else true)
    and in_fits (512 * blocks) f.place f.left f.announced f.residue
    and leb 64 buffer

pub record Passes (g : Given) (f : flats.Flat) (buffer : ℕ) : Type 0 where
  pub free : Free g f
  pub stage : f.stage ≡ 7
  pub place : f.place ≡ 0
  pub none : f.left ≡ 0
  pub value : f.value ≡ 0
  pub running : f.residue ≤ f.announced
  pub room : 64 ≤ buffer

pub record Gathers (g : Given) (f : flats.Flat) (blocks packet : ℕ) : Type 0 where
  pub free : Free g f
  pub stage : f.stage ≡ 1
  pub some : 1 ≤ f.left
  pub last : f.left ≡ 1 → f.residue ≡ 512
  pub running : out_fits blocks f.place f.left f.value f.announced f.residue ≡ true
  pub full : packet ≡ 64

-- The numbers once the transfer has gone on.
unfoldable pub moved_on : flats.Flat → ℕ → ℕ → ℕ → ℕ → ℕ → flats.Flat
moved_on f stage residue place left value =
    record {
      residue = residue;
      place = place;
      left = left;
      value = value;
      extra = 0;
      tag = f.tag;
      announced = f.announced;
      stage = stage;
      flags = 1;
      address = f.address;
      lun = f.lun;
    }

-- The same after a whole packet of a read: the status is due, or more of the data.
unfoldable pub read_on : flats.Flat → flats.Flat
read_on f = when eqb f.left 64 then moved_on f 7 0 0 0 0 else moved_on f 2 (f.residue - 64) (f.place + 64) (f.left - 64) 0

-- The numbers once the command has ended.
unfoldable pub ended : flats.Flat → flats.Flat
ended f =
    record {
      residue = 0;
      place = 0;
      left = 0;
      value = 0;
      extra = 0;
      tag = 0;
      announced = 0;
      stage = 0;
      flags = 1;
      address = f.address;
      lun = 0;
    }
