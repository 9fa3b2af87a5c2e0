-- What a reader finds at a place of a recording for so many units.
use Rattle.std.specs.Prelude.{ℕ, ◌+◌, List, leb, length, drop, Option, Some, None}
use Rattle.wire.specs.Choice.{when◌then◌else◌, ◌and◌}
use Rattle.recording.specs.declared.cursor.Kind.{Kind}
use Rattle.recording.specs.declared.cursor.Kind.TheVariants.{Reset, Control, Out, Ask, Switch}
use Rattle.recording.specs.declared.cursor.Reading.{Reading}
use Rattle.recording.specs.Format.{kind_in, length_in}

abbrev pub reading : Option Kind → ℕ → ℕ → ℕ → Reading
reading k n e b = record { kind = k; len = n; entry = e; body = b }

-- The event whose entry stands at e and whose body starts at b, where both lie in the recording.
unfoldable pub read_at : ℕ → List ℕ → ℕ → ℕ → Reading
read_at units s e b =
    when leb (e + 4) (length s) and leb (b + length_in (drop e s)) (length s)
    then reading (kind_in units (drop e s) (drop b s)) (length_in (drop e s)) (e + 4) (b + length_in (drop e s))
    else reading None 0 e b

-- The papers' number for each kind ("Kinds: 1 bus reset .., 2 control .., 3 bulk-out .., 4 bulk-in ask ..", "Anything
-- else .. is 16"; "kind 5", document 02, A4), and a reading by that number: what the contracts say.
abbrev pub kind_number : Option Kind → ℕ
kind_number (Some Reset) = 1
kind_number (Some Control) = 2
kind_number (Some Out) = 3
kind_number (Some Ask) = 4
kind_number (Some Switch) = 5
kind_number None = 16

pub record Numbered : Type 0 where
  pub kind : ℕ
  pub len : ℕ
  pub entry : ℕ
  pub body : ℕ

unfoldable pub numbered : Reading → Numbered
numbered r = record { kind = kind_number r.kind; len = r.len; entry = r.entry; body = r.body }
