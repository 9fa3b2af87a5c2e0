-- Document 01's number, and the count of bytes, for each answer of the codec ("Numbers that come back", "Wrappers").
use Rattle.std.specs.Prelude.{ℕ, List, Result, Ok, Err}
use Rattle.bot.specs.declared.refused.Refused.{Refused}

abbrev pub refused : Refused
refused = record {}

abbrev pub number_of : Result ℕ Refused → ℕ
number_of (Ok n) = 0
number_of (Err e) = 17

abbrev pub count_of : Result ℕ Refused → ℕ
count_of (Ok n) = n
count_of (Err e) = 0

-- What writing a wrapper leaves: the number, the count of bytes written, the buffer.
pub record Writing : Type 0 where
  pub number : ℕ
  pub count : ℕ
  pub buffer : List ℕ

abbrev pub writing : ℕ → ℕ → List ℕ → Writing
writing k n b = record { number = k; count = n; buffer = b }

abbrev pub written : Result ℕ Refused → List ℕ → Writing
written r b = writing (number_of r) (count_of r) b
