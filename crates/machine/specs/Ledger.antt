-- The ledger (document 02, A13): the status wrappers that were handed out, held to the command wrappers and to the bytes that moved. Proved in proofs/Ledger.antt.
-- The accountant is an observer, as the tally is: it is fed the making, the events, and their answers with the bytes handed out. It knows no record.
use Rattle.std.specs.Prelude.{ℕ, ◌+◌, ◌*◌, ◌-◌, ◌≡◌, List, [], ◌∷◌, map, length}
use Rattle.wire.specs.Choice.{when◌then◌else◌}
use Rattle.wire.specs.Numbers.{little}
use Rattle.wire.specs.Slices.{Below, byte_at, bytes_at}
use Rattle.bot.specs.Cbw.{header_of}
use Rattle.machine.specs.declared.answer.Answer.{Answer}
use Rattle.machine.specs.Units.{block_size}
use Rattle.machine.specs.Machine.{Event, bus_reset, control, bulk_out, bulk_in, set_switch}
use Rattle.machine.specs.Handed.{Handed, handed, is_status}
use Rattle.machine.specs.Tally.{Making, Tally, idle, writing, Log, start, is_ack, noted, observed}
use Rattle.machine.specs.Claim.{Makes, lived, ends}

-- ---- the book

-- An accepted command wrapper, and "the bytes counted from the history" since.
pub record Command : Type 0 where
  pub tag : ℕ
  pub announced : ℕ
  pub counted : ℕ

abbrev pub command_of : List ℕ → Command
command_of p = record { tag = (header_of p).tag; announced = (header_of p).announced; counted = 0 }

-- A status wrapper that was handed out: "tag, residue, status".
pub record Status : Type 0 where
  pub tag : ℕ
  pub residue : ℕ
  pub code : ℕ

abbrev pub status_of : List ℕ → Status
status_of s = record { tag = little (bytes_at 4 4 s); residue = little (bytes_at 4 8 s); code = byte_at s 12 }

-- "Between two command drops": the command wrappers and the status wrappers, the latest first; and data-in bytes that are no command's, which document 02 does
-- not name: a ledger would hide them.
pub record Book : Type 0 where
  pub commands : List Command
  pub statuses : List Status
  pub stray : ℕ

abbrev pub book : List Command → List Status → ℕ → Book
book cs ss n = record { commands = cs; statuses = ss; stray = n }

-- Bytes are counted for the latest command.
unfoldable pub counting : ℕ → List Command → List Status → ℕ → Book
counting n [] ss stray = book [] ss (stray + n)
counting n (c ∷ cs) ss stray = book (record { tag = c.tag; announced = c.announced; counted = c.counted + n } ∷ cs) ss stray

-- ---- the accountant

-- "512 for each block whose bytes all arrived", with this event
unfoldable pub arrived_with : Log → Event → Answer → ℕ
arrived_with l e a = block_size * (length (noted l e a).arrived - length l.arrived)

-- An acked bulk-out packet is a command wrapper exactly where the tally has no write under way; else it is data, with which n bytes of blocks arrived.
unfoldable pub took_packet : Tally → List ℕ → ℕ → Book → Book
took_packet idle p n b = book (command_of p ∷ b.commands) b.statuses b.stray
took_packet (writing lun block left held) p n b = counting n b.commands b.statuses b.stray

-- What an ask hands out is a status wrapper or "data-in bytes", which may be none.
unfoldable pub gave_packet : List ℕ → Book → Book
gave_packet s b =
    when is_status s
    then book b.commands (status_of s ∷ b.statuses) b.stray
    else counting (length s) b.commands b.statuses b.stray

unfoldable pub entered : Log → Event → Handed → Book → Book
entered l bus_reset h b = b
entered l (control s c) h b = b
entered l (bulk_out p) h b = when is_ack h.answer then took_packet l.tally p (arrived_with l (bulk_out p) h.answer) b else b
entered l (bulk_in c) h b = gave_packet h.bytes b
entered l (set_switch x n) h b = b

-- The tally's log beside the book. Each command drop begins an empty book: an acked bus reset, Set Configuration or Mass Storage Reset.
pub record Account : Type 0 where
  pub log : Log
  pub book : Book

unfoldable pub booked : Account → Event → Handed → Account
booked a e h = record {
  log = noted a.log e h.answer;
  book = when ends e h.answer then book [] [] 0 else entered a.log e h a.book;
}

abbrev pub opened : Making → Account
opened k = record { log = start k; book = book [] [] 0 }

unfoldable pub ledger : Making → List Event → Book
ledger k es = (observed booked (opened k) es (map handed (lived k es).replies)).book

-- ---- the claim

-- "carry the tags of the accepted command wrappers, in order"; "In each, announced length less residue equals the bytes counted from the history"
unfoldable pub Paid : List Command → List Status → Type 0
Paid [] [] = Unit
Paid (c ∷ cs) (s ∷ ss) = (s.tag ≡ c.tag) × (c.announced ≡ s.residue + c.counted) × Paid cs ss
Paid [] (s ∷ ss) = ⊥
Paid (c ∷ cs) [] = ⊥

-- "and number as many or one fewer"
pub data Settled : List Command → List Status → Type 0 where
  as_many : {cs : List Command} {ss : List Status} → Paid cs ss → Settled cs ss
  one_fewer : {c : Command} {cs : List Command} {ss : List Status} → Paid cs ss → Settled (c ∷ cs) ss

pub record Balanced (b : Book) : Type 0 where
  pub settled : Settled b.commands b.statuses
  pub owned : b.stray ≡ 0

-- What the host sends is bytes, so that a tag of four of them comes back whole.
abbrev pub IsBytes : Event → Type 0
IsBytes bus_reset = Unit {0}
IsBytes (control s b) = Unit {0}
IsBytes (bulk_out p) = Below 256 p
IsBytes (bulk_in b) = Unit {0}
IsBytes (set_switch x n) = Unit {0}

unfoldable pub AllBytes : List Event → Type 0
AllBytes [] = Unit
AllBytes (e ∷ es) = IsBytes e × AllBytes es

-- Of every list, and so after every event, and of each book before its drop. "A command cut by a drop has no status": the next book begins empty, and a
-- status in it needs a command of its own.
unfoldable pub Ledger : Type 0
Ledger = (k : Making) → Makes k → (es : List Event) → AllBytes es → Balanced (ledger k es)
