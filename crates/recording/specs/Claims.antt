-- What is claimed of recordings. Proved in proofs/Recordings.antt.
use Rattle.std.specs.Prelude.{ℕ, ◌≤◌, ◌≡◌, List, length}
use Rattle.machine.specs.Machine.{Event}
use Rattle.recording.specs.Format.{AllRecordable, most_bytes, most_events, written, parse, well_formed}

-- What is written is read back, for every number of units.
abbrev pub WrittenIsParsed : Type 0
WrittenIsParsed =
    (units : ℕ) (es : List Event) → AllRecordable units es → length es ≤ most_events → length (written es) ≤ most_bytes
    → parse units (written es) ≡ well_formed es
