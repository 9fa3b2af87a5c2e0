-- What is claimed of the thirteen cases: how much moves, and that the halt after data comes exactly where some of the announced length is left. Proved in proofs/Moves.antt.
use Rattle.std.specs.Prelude.{ℕ, ◌≤◌, ◌≡◌, Bool, true, false, ltb}
use Rattle.wire.specs.Choice.{when◌then◌else◌}
use Rattle.cases.specs.declared.Transfer.{Transfer}
use Rattle.cases.specs.declared.Transfer.TheVariants.{None, In, Out}
use Rattle.cases.specs.declared.Pipe.{Pipe}
use Rattle.cases.specs.declared.Pipe.TheVariants as pipe
use Rattle.cases.specs.declared.Halt.{Halt}
use Rattle.cases.specs.declared.Halt.TheVariants as halt
use Rattle.cases.specs.declared.Case.{Case}
use Rattle.cases.specs.Cases.{plain, phase_error, case_of}

abbrev pub amount : Transfer → ℕ
amount None = 0
amount (In n) = n
amount (Out n) = n

unfoldable pub is_after_data : Halt → Bool
is_after_data halt.None = false
is_after_data (halt.AtOnce p) = false
is_after_data (halt.AfterData p) = true

-- A pipe over which `has` of the bytes announced go is halted after them exactly if they are fewer.
unfoldable pub after_data : Pipe → ℕ → ℕ → Halt
after_data p announced has = when ltb has announced then halt.AfterData p else halt.None

-- No data moves, and no halt waits for its end; or all of the device's data, which is no more than announced.
pub data Follows (announced has : ℕ) : Case → Type 0 where
  nothing_moves : {h : Halt} → is_after_data h ≡ false → Follows announced has (plain None h)
  no_match : {h : Halt} → is_after_data h ≡ false → Follows announced has (phase_error h)
  all_in : has ≤ announced → Follows announced has (plain (In has) (after_data pipe.In announced has))
  all_out : has ≤ announced → Follows announced has (plain (Out has) (after_data pipe.Out announced has))

abbrev pub CasesFollow : Type 0
CasesFollow = (host device : Transfer) → Follows (amount host) (amount device) (case_of host device)
