-- The calls that C makes, one after another, on the record and the table that `collector_make` left: they are the machine's run, of which machine/specs/Claim.antt has demand 3. Proved in proofs/Calls.antt.
use Rattle.std.specs.Prelude.{ℕ, ◌≡◌, true, List, [], ◌∷◌}
use Rattle.scsi.specs.Sense.{IsSense}
use Rattle.machine.specs.declared.answer.Answer.{Answer}
use Rattle.machine.specs.Answer.{number_of, count_of}
use Rattle.machine.specs.Units.{Table, unit_at}
use Rattle.machine.specs.Machine.{Event, Run}
use Rattle.machine.specs.Machine as machines
use Rattle.machine.specs.Tally.{Making}
use Rattle.machine.specs.Claim.{lived}
use Rattle.crecord.specs.declared.record.Record.{Record}
use Rattle.crecord.specs.declared.record.Told as tolds
use Rattle.crecord.specs.Flat.{decodes, world_from, record_of, answer}
use Rattle.cevents.specs.Events.{Left, on_record, LeftMade, on_making}

-- What C sees of one call: its number and count, the buffer that it lent, the table and the medium after it.
pub record Seen : Type 0 where
  pub told : tolds.Told
  pub buffer : List ℕ
  pub units : Table
  pub medium : List ℕ

abbrev pub seen : tolds.Told → List ℕ → Table → List ℕ → Seen
seen t b us m = record { told = t; buffer = b; units = us; medium = m }

-- All that it sees of a list of calls, and what is left at the end.
pub record Calls : Type 0 where
  pub replies : List Seen
  pub rec : Record
  pub units : Table
  pub medium : List ℕ

abbrev pub before : Left → Calls → Calls
before l c = record { replies = seen l.told l.buffer l.units l.medium ∷ c.replies; rec = c.rec; units = c.units; medium = c.medium }

-- Each call finds the record, the table and the medium that the one before it left.
unfoldable pub calls : Record → Table → List ℕ → List Event → Calls
calls r us m [] = record { replies = []; rec = r; units = us; medium = m }
calls r us m (e ∷ es) = let l : Left = on_record r us m e in before l (calls l.rec l.units l.medium es)

-- The calls after the making of a collector.
unfoldable pub called : Making → List Event → Calls
called k es = let l : LeftMade = on_making k.identity k.units k.medium in calls l.rec l.units k.medium es

-- The machine's run as C would see it: answers by document 01's number, the record as numbers.
unfoldable pub by_number : List machines.Seen → List Seen
by_number [] = []
by_number (s ∷ ss) = seen (answer (number_of s.answer) (count_of s.answer)) s.buffer s.units s.medium ∷ by_number ss

unfoldable pub as_calls : Run → Calls
as_calls r = record { replies = by_number r.replies; rec = record_of r.world; units = r.world.units; medium = r.world.medium }

-- C sees the machine's run, and the numbers that it holds stand for the machine's record, beside the table and the medium.
pub record RunByCalls (k : Making) (es : List Event) : Type 0 where
  pub sees : called k es ≡ as_calls (lived k es)
  pub valid : decodes (called k es).rec.flat ≡ true
  pub holds : world_from (called k es).rec (called k es).units (called k es).medium ≡ (lived k es).world

-- Every table that C can lend is one of these: its senses are of bytes. (A making that is acked makes them zero; a refused one keeps the table.)
abbrev pub OfBytes : Table → Type 0
OfBytes us = (n : ℕ) → IsSense (unit_at us n).sense

-- Of every making, a refused one too, and every list of events: so at each moment. An answer is known by its number and count, so what demand 3 says of answers
-- is said of what C sees.
pub record CallsRun : Type 0 where
  pub runs : (k : Making) → OfBytes k.units → (es : List Event) → RunByCalls k es
  pub answers : (a b : Answer) → number_of a ≡ number_of b → count_of a ≡ count_of b → a ≡ b
