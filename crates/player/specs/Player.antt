-- A recording played (document 01, "The bench recording"): the machine's run over its events, and what is printed of it.
use Rattle.std.specs.Prelude.{ℕ, ◌+◌, ◌*◌, ◌≡◌, List, [], ◌∷◌, ◌++◌, eqb, length, drop}
use Rattle.wire.specs.Choice.{when◌then◌else◌}
use Rattle.wire.specs.Slices.{zeros}
use Rattle.scsi.specs.Sense.{no_sense}
use Rattle.usb.specs.declared.descriptor.Identity.{Identity}
use Rattle.machine.specs.Answer.{number_of}
use Rattle.machine.specs.Units.{Table, unit}
use Rattle.machine.specs.Making.{make}
use Rattle.machine.specs.World.{World}
use Rattle.machine.specs.Machine.{Event, Run, run}
use Rattle.machine.specs.Claim.{lived}
use Rattle.recording.specs.Format.{events_in, Parsed, malformed, well_formed, parse}
use Rattle.printout.specs.Print.{heading, lines, refused_line, most_line}

-- "number 42, other identity numbers 0"
abbrev pub bench_identity : Identity
bench_identity = record { number = 42; vendor = 0; product = 0; release = 0 }

-- The number that its making over a table and a medium gives, and the run over them as they are lent.
unfoldable pub making_number : Table → List ℕ → ℕ
making_number us start = number_of (make bench_identity us start).answer

unfoldable pub played : Table → List ℕ → List Event → Run
played us start es = lived (record { identity = bench_identity; units = us; medium = start }) es

-- The run over so many events of a recording s for so many units, from a world on: what the loop over them leaves.
abbrev pub run_in : ℕ → List ℕ → ℕ → World → Run
run_in units s n w = run w (events_in units n (drop 2 s) (drop (2 + 4 * n) s))

-- The text, and the medium that is left. Nothing is run, and the medium stays as it was, of a malformed recording (16), then
-- where making refuses the table (10) or the medium (11); the number 42 is never refused.
unfoldable pub text_of : Table → List ℕ → Parsed → List ℕ
text_of us start malformed = refused_line 16
text_of us start (well_formed es) =
    when eqb (making_number us start) 1
    then heading (length es) ++ lines 1 (played us start es).replies
    else refused_line (making_number us start)

unfoldable pub medium_of : Table → List ℕ → Parsed → List ℕ → List ℕ
medium_of us start malformed m = m
medium_of us start (well_formed es) m = when eqb (making_number us start) 1 then (played us start es).world.medium else m

-- The table that is left: as the run leaves it, and as it was where nothing is run.
unfoldable pub table_left : Table → List ℕ → Parsed → Table
table_left us start malformed = us
table_left us start (well_formed es) = when eqb (making_number us start) 1 then (played us start es).world.units else us

unfoldable pub printed_over : Table → List ℕ → List ℕ → List ℕ
printed_over us start s = text_of us start (parse (length us) s)

-- What a player leaves of a recording s: the text t has the print-out in front and keeps the rest, r is the print-out's length.
pub record Leaves (us : Table) (start s t m t' : List ℕ) (r : ℕ) (m' : List ℕ) : Type 0 where
  pub text : t' ≡ printed_over us start s ++ drop (length (printed_over us start s)) t
  pub place : r ≡ length (printed_over us start s)
  pub medium : m' ≡ medium_of us start (parse (length us) s) m

-- The bench's: "64 zero blocks", in one unit.
abbrev pub bench_table : Table
bench_table = unit 0 64 no_sense 0 ∷ []

unfoldable pub bench_medium : List ℕ
bench_medium = zeros 32768

-- The text's room: the heading, and a line for each event.
abbrev pub most_text : ℕ
most_text = 12 + 1024 * most_line
