-- The record as C holds it, numbers alone, and the device's state that they stand for. include/collector.h says the same in words.
use Rattle.std.specs.Prelude.{ℕ, ◌+◌, ◌/◌, ◌%◌, ◌^◌, Bool, true, false, List, [], ◌∷◌, eqb, leb, ltb, Option, Some, None}
use Rattle.wire.specs.Choice.{when◌then◌else◌, ◌and◌, Row, row, look}
use Rattle.wire.specs.Bits.{bits}
use Rattle.wire.specs.Numbers.{little}
use Rattle.scsi.specs.declared.sense.Sense.{Sense}
use Rattle.scsi.specs.declared.reply.Reply.TheVariants as reply
use Rattle.scsi.specs.declared.page.Page.{Page}
use Rattle.scsi.specs.Page.{page_code, page_of}
use Rattle.bot.specs.declared.csw.Status.TheVariants.{Passed, Failed, PhaseError}
use Rattle.usb.specs.declared.descriptor.Identity.{Identity}
use Rattle.machine.specs.declared.record.Stage.{Stage}
use Rattle.machine.specs.declared.record.Stage.TheVariants.{Ready, DataOut, DataIn, ReplyIn, StatusDue}
use Rattle.machine.specs.declared.record.State.{State}
use Rattle.machine.specs.declared.record.Device.{Device}
use Rattle.machine.specs.declared.show.Extent.{Extent}
use Rattle.machine.specs.declared.show.Extent.TheVariants as extent
use Rattle.machine.specs.Units.{Table}
use Rattle.machine.specs.Record.{task, link, state, device}
use Rattle.machine.specs.World.{World, world}
use Rattle.crecord.specs.declared.record.Given.{Given}
use Rattle.crecord.specs.declared.record.Flat as flats
use Rattle.crecord.specs.declared.record.Record.{Record}
use Rattle.crecord.specs.declared.record.Told as tolds
use Rattle.crecord.specs.declared.record.Shown as showns
use Rattle.crecord.specs.declared.encode.Numbers.{Numbers}

-- ---- the stage: a number, and what place, left, value and extra mean under it

abbrev pub numbers : ℕ → ℕ → ℕ → ℕ → ℕ → Numbers
numbers n p l v x = record { stage = n; place = p; left = l; value = v; extra = x }

abbrev pub numbers_in : flats.Flat → Numbers
numbers_in f = numbers f.stage f.place f.left f.value f.extra

-- A sense's bytes as one number, its key in the lowest; its information is another (document 02, A8).
unfoldable pub sense_number : Sense → ℕ
sense_number s = little (s.key ∷ s.asc ∷ s.ascq ∷ [])

unfoldable pub sense_from : ℕ → ℕ → Sense
sense_from v x = record { key = v % 256; asc = v / 256 % 256; ascq = v / 256 ^ 2 % 256; information = x }

-- A page is known by its code.
abbrev pub is_found : Option Page → Bool
is_found None = false
is_found (Some p) = true

abbrev pub page_stage : Option Page → ℕ → ℕ → Stage
page_stage None place left = Ready
page_stage (Some p) place left = ReplyIn (reply.Page p) place left

-- Of a stage's number: which numbers stand for something, and for which stage.
pub record Form : Type 0 where
  pub has : Numbers → Bool
  pub stage : Numbers → Stage

abbrev pub form : (Numbers → Bool) → (Numbers → Stage) → Form
form h s = record { has = h; stage = s }

-- A number that a stage does not use is 0. Without a transfer there are none; most transfers have a place and what is left, some a value too.
unfoldable pub no_value : ℕ → ℕ → Bool
no_value value extra = eqb value 0 and eqb extra 0

unfoldable pub no_numbers : ℕ → ℕ → ℕ → ℕ → Bool
no_numbers place left value extra = eqb place 0 and eqb left 0 and no_value value extra

-- "A change during a command counts from the next wrapper" (document 02, A4): Mode Sense keeps the position that its wrapper found, 0 open or 1 closed.
unfoldable pub is_position : ℕ → ℕ → Bool
is_position value extra = leb value 1 and eqb extra 0

unfoldable pub is_page : ℕ → ℕ → Bool
is_page value extra = is_found (page_of value) and eqb extra 0

abbrev pub none : Numbers → Bool
none n = no_numbers n.place n.left n.value n.extra

abbrev pub two : Numbers → Bool
two n = no_value n.value n.extra

abbrev pub three : Numbers → Bool
three n = eqb n.extra 0

abbrev pub forms : List (Row Form)
forms =
    row 0 (form none (λ n. Ready))
    ∷ row 1 (form three (λ n. DataOut n.place n.left n.value))
    ∷ row 2 (form two (λ n. DataIn n.place n.left))
    ∷ row 3 (form (λ n. ltb n.value (256 ^ 3)) (λ n. ReplyIn (reply.Sense (sense_from n.value n.extra)) n.place n.left))
    ∷ row 4 (form two (λ n. ReplyIn reply.Inquiry n.place n.left))
    ∷ row 5 (form (λ n. is_position n.value n.extra) (λ n. ReplyIn (reply.ModeSense (eqb n.value 1)) n.place n.left))
    ∷ row 6 (form three (λ n. ReplyIn (reply.Capacity n.value) n.place n.left))
    ∷ row 7 (form none (λ n. StatusDue Passed))
    ∷ row 8 (form none (λ n. StatusDue Failed))
    ∷ row 9 (form none (λ n. StatusDue PhaseError))
    ∷ row 10 (form (λ n. is_page n.value n.extra) (λ n. page_stage (page_of n.value) n.place n.left))
    ∷ []

abbrev pub no_form : Form
no_form = form (λ n. false) (λ n. Ready)

unfoldable pub form_of : ℕ → Form
form_of n = look forms n no_form

-- ---- reading: a record whose numbers stand for nothing is number 10

-- Bit n of the flags: configured, bulk-in halted, bulk-out halted, locked.
unfoldable pub flag : ℕ → ℕ → Bool
flag n flags = eqb (bits n n flags) 1

unfoldable pub decodes : flats.Flat → Bool
decodes f = leb f.flags 15 and (form_of f.stage).has (numbers_in f)

-- Nothing is asked of the unit's number here: whether the table has it, the machine asks.
unfoldable pub state_from : flats.Flat → State
state_from f =
    state f.address (flag 0 f.flags)
    (link (flag 1 f.flags) (flag 2 f.flags) (flag 3 f.flags)
    (task ((form_of f.stage).stage (numbers_in f)) f.lun f.tag f.announced f.residue))

abbrev pub identity_from : Given → Identity
identity_from g = record { number = g.number; vendor = g.vendor; product = g.product; release = g.release }

-- ---- writing

unfoldable pub worth : Bool → ℕ → ℕ
worth on n = when on then n else 0

unfoldable pub numbers_of : Stage → Numbers
numbers_of Ready = numbers 0 0 0 0 0
numbers_of (DataOut block left held) = numbers 1 block left held 0
numbers_of (DataIn place left) = numbers 2 place left 0 0
numbers_of (ReplyIn (reply.Sense s) place left) = numbers 3 place left (sense_number s) s.information
numbers_of (ReplyIn reply.Inquiry place left) = numbers 4 place left 0 0
numbers_of (ReplyIn (reply.ModeSense protected) place left) = numbers 5 place left (worth protected 1) 0
numbers_of (ReplyIn (reply.Capacity n) place left) = numbers 6 place left n 0
numbers_of (ReplyIn (reply.Page p) place left) = numbers 10 place left (page_code p) 0
numbers_of (StatusDue Passed) = numbers 7 0 0 0 0
numbers_of (StatusDue Failed) = numbers 8 0 0 0 0
numbers_of (StatusDue PhaseError) = numbers 9 0 0 0 0

unfoldable pub flags_of : State → ℕ
flags_of s = worth s.configured 1 + worth s.link.haltin 2 + worth s.link.haltout 4 + worth s.link.locked 8

unfoldable pub flat_with : State → Numbers → flats.Flat
flat_with s n =
    record {
      residue = s.link.task.residue;
      place = n.place;
      left = n.left;
      value = n.value;
      extra = n.extra;
      tag = s.link.task.tag;
      announced = s.link.task.announced;
      stage = n.stage;
      flags = flags_of s;
      address = s.address;
      lun = s.link.task.lun;
    }

unfoldable pub flat_of : State → flats.Flat
flat_of s = flat_with s (numbers_of s.link.task.stage)

abbrev pub given_of : Identity → Given
given_of i = record { number = i.number; vendor = i.vendor; product = i.product; release = i.release }

-- ---- the whole record

abbrev pub rec : Given → flats.Flat → List ℕ → Record
rec g f p = record { given = g; flat = f; part = p }

abbrev pub device_from : Record → Device
device_from r = device (identity_from r.given) (state_from r.flat) r.part

-- The table and the medium are lent beside the record.
abbrev pub world_from : Record → Table → List ℕ → World
world_from r us m = world (device_from r) us m

abbrev pub record_of : World → Record
record_of w = rec (given_of w.dev.identity) (flat_of w.dev.state) w.dev.part

-- ---- an answer: document 01's number, and the count of bytes that data has

abbrev pub answer : ℕ → ℕ → tolds.Told
answer n k = record { number = n; count = k }

-- ---- the answer of a showing call (document 02, A11): the two, and where the packet stands

abbrev pub source_number : Extent → ℕ
source_number extent.Nowhere = 0
source_number (extent.Medium start count) = 1
source_number (extent.Reply start count) = 2

abbrev pub start_of : Extent → ℕ
start_of extent.Nowhere = 0
start_of (extent.Medium start count) = start
start_of (extent.Reply start count) = start

abbrev pub shown_as : ℕ → ℕ → Extent → showns.Shown
shown_as n k x = record { number = n; source = source_number x; start = start_of x; count = k }
