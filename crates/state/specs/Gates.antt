-- The checks before an event, by document 01's numbers.
use Rattle.std.specs.Prelude.{ℕ, Ok, Err}
use Rattle.machine.specs.Answer.{number_of, count_of}
use Rattle.machine.specs.Machine.{Verdict}

-- The event goes on, or ends with this number and count of bytes.
pub data Admission : Type 0 where
  goes_on : Admission
  ends : ℕ → ℕ → Admission

abbrev pub admission : Verdict → Admission
admission (Ok u) = goes_on
admission (Err a) = ends (number_of a) (count_of a)
