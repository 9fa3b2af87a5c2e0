-- The units keep apart (document 02, A7): what a step may write, and what one unit's data can show to the others. Proved in proofs/Kept.antt and proofs/Isolation.antt.
use Rattle.std.specs.Prelude.{ℕ, ◌≡◌, Bool, true, false, List, [], ◌∷◌, eqb, length, Option, Some, None}
use Rattle.wire.specs.Choice.{when◌then◌else◌, ◌and◌}
use Rattle.scsi.specs.declared.command.Plan.{Plan}
use Rattle.scsi.specs.declared.command.Plan.TheVariants.{Failed, Nothing, Reply, Read, Write}
use Rattle.bot.specs.declared.cbw.Header.{Header}
use Rattle.machine.specs.declared.record.Stage.{Stage}
use Rattle.machine.specs.declared.record.Stage.TheVariants.{Ready, DataOut, DataIn, ReplyIn, StatusDue}
use Rattle.machine.specs.declared.wrapper.Wrapper.{Wrapper}
use Rattle.machine.specs.declared.answer.Answer.{Answer}
use Rattle.machine.specs.Units.{Table, unit_at, part_of}
use Rattle.machine.specs.World.{World}
use Rattle.machine.specs.Wrapper.{wrapper_of}
use Rattle.machine.specs.Machine.{Event, bus_reset, control, bulk_out, bulk_in, set_switch, Seen, step}
use Rattle.machine.specs.Handed.{handed, is_status}
use Rattle.machine.specs.Tally.{Making, Tally, idle, writing, Log, start, is_ack, noted}
use Rattle.machine.specs.Claim.{answers, Makes, lived}

-- ---- "Every block outside the addressed unit keeps its bytes."

unfoldable pub is_write : Stage → Bool
is_write Ready = false
is_write (DataOut block left held) = true
is_write (DataIn place left) = false
is_write (ReplyIn reply place left) = false
is_write (StatusDue status) = false

-- A packet of data for the unit n: no other event may write, and this one to no other unit.
unfoldable pub writes_to : World → Event → ℕ → Bool
writes_to w bus_reset n = false
writes_to w (control s b) n = false
writes_to w (bulk_out p) n = is_write w.dev.state.link.task.stage and eqb w.dev.state.link.task.lun n
writes_to w (bulk_in b) n = false
writes_to w (set_switch x m) n = false

-- Of every step, whatever record, table and medium are lent.
unfoldable pub OutsideKept : Type 0
OutsideKept =
    (w : World) (e : Event) (n : ℕ)
    → writes_to w e n ≡ false
    → part_of (unit_at w.units n) (step w e).world.medium ≡ part_of (unit_at w.units n) w.medium

-- ---- "two histories with equal collectors, tables, media and events, but for .." the unit b

-- "and of B's starting blocks": media of one length that differ in b's part alone
pub record Apart (us : Table) (b : ℕ) (m m' : List ℕ) : Type 0 where
  pub size : length m ≡ length m'
  pub others : (n : ℕ) → (n ≡ b → ⊥) → part_of (unit_at us n) m ≡ part_of (unit_at us n) m'

abbrev pub IsWriting : ℕ → Tally → Type 0
IsWriting b idle = ⊥
IsWriting b (writing n block left held) = n ≡ b

-- "the contents (not lengths) of data packets written to district B": the packets that come while the tally has a write to b under way. No wrapper is one.
pub data Alike (b : ℕ) (t : Tally) : Event → Event → Type 0 where
  same : (e : Event) → Alike b t e e
  data_to : {p p' : List ℕ} → length p ≡ length p' → IsWriting b t → Alike b t (bulk_out p) (bulk_out p')

-- As many events, each alike its fellow, by what the first history says there.
unfoldable pub AllAlike : ℕ → Log → List Event → List Answer → List Event → Type 0
AllAlike b l [] said [] = Unit
AllAlike b l (e ∷ es) (a ∷ said) (e' ∷ es') = Alike b l.tally e e' × AllAlike b (noted l e a) es said es'
AllAlike b l [] said (e' ∷ es') = ⊥
AllAlike b l (e ∷ es) [] es' = ⊥
AllAlike b l (e ∷ es) (a ∷ said) [] = ⊥

-- ---- which bytes may differ: those that a Read of b hands out

-- What the last accepted wrapper reads from, if it is a Read: by the history, as the tally reads wrappers.
pub data Source : Type 0 where
  nothing : Source
  from : ℕ → Source

unfoldable pub read_of : Header → Plan → Source
read_of h (Failed s) = nothing
read_of h Nothing = nothing
read_of h (Reply k n) = nothing
read_of h (Read block count) = from h.lun
read_of h (Write block count) = nothing

unfoldable pub source_of : Option Wrapper → Source
source_of None = nothing
source_of (Some x) = read_of x.header x.plan

-- An acked packet where no write is under way is a wrapper.
unfoldable pub source_after : Tally → Table → List ℕ → Source → Source
source_after idle us p x = source_of (wrapper_of us p)
source_after (writing n block left held) us p x = x

unfoldable pub reads : Log → Event → Answer → Source → Source
reads l bus_reset a x = x
reads l (control s c) a x = x
reads l (bulk_out p) a x = when is_ack a then source_after l.tally l.units p x else x
reads l (bulk_in c) a x = x
reads l (set_switch y n) a x = x

-- An ask while the last accepted wrapper is a Read of b.
abbrev pub ReadsFrom : ℕ → Source → Event → Type 0
ReadsFrom b x bus_reset = ⊥
ReadsFrom b x (control s c) = ⊥
ReadsFrom b x (bulk_out p) = ⊥
ReadsFrom b x (bulk_in c) = x ≡ from b
ReadsFrom b x (set_switch y n) = ⊥

-- One event of the two histories.
pub record Agrees (us : Table) (b : ℕ) (x : Source) (e : Event) (r r' : Seen) : Type 0 where
  -- "equal stalls .. everywhere": every answer, its count too
  pub answers : r.answer ≡ r'.answer
  -- "equal answers to commands for district A": all bytes, but those that a Read of b hands out
  pub buffers : (ReadsFrom b x e → ⊥) → r.buffer ≡ r'.buffer
  -- "equal .. residues everywhere": the status wrappers, that of a Read of b too
  pub statuses : is_status (handed r).bytes ≡ true → r.buffer ≡ r'.buffer
  -- "equal blocks in A": in every unit but b, after every event
  pub media : Apart us b r.medium r'.medium
  pub tables : r.units ≡ r'.units

unfoldable pub AllAgree : Table → ℕ → Log → Source → List Event → List Seen → List Seen → Type 0
AllAgree us b l x [] [] [] = Unit
AllAgree us b l x (e ∷ es) (r ∷ rs) (r' ∷ rs') = Agrees us b x e r r' × AllAgree us b (noted l e r.answer) (reads l e r.answer x) es rs rs'
AllAgree us b l x [] (r ∷ rs) rs' = ⊥
AllAgree us b l x [] [] (r' ∷ rs') = ⊥
AllAgree us b l x (e ∷ es) [] rs' = ⊥
AllAgree us b l x (e ∷ es) (r ∷ rs) [] = ⊥

-- The same making over another medium.
abbrev pub over_medium : Making → List ℕ → Making
over_medium k m = record { identity = k.identity; units = k.units; medium = m }

-- For every unit b of every table, and so for any two units of it.
unfoldable pub Isolation : Type 0
Isolation =
    (k : Making) → Makes k → (b : ℕ) (m' : List ℕ) → Apart k.units b k.medium m'
    → (es es' : List Event) → AllAlike b (start k) es (answers (lived k es).replies) es'
    → AllAgree k.units b (start k) nothing es (lived k es).replies (lived (over_medium k m') es').replies
