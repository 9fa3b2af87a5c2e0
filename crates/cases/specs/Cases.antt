-- Document 01's "The thirteen meetings of host and device" (BOT 6.7): what the host announces, what the device has, what follows.
use Rattle.std.specs.Prelude.{ℕ, eqb, ltb}
use Rattle.wire.specs.Choice.{when◌then◌else◌}
use Rattle.cases.specs.declared.Transfer.{Transfer}
use Rattle.cases.specs.declared.Transfer.TheVariants.{None, In, Out}
use Rattle.cases.specs.declared.Pipe.{Pipe}
use Rattle.cases.specs.declared.Pipe.TheVariants as pipe
use Rattle.cases.specs.declared.Halt.{Halt}
use Rattle.cases.specs.declared.Halt.TheVariants as halt
use Rattle.cases.specs.declared.Ending.TheVariants.{Command, PhaseError}
use Rattle.cases.specs.declared.Case.{Case}

-- "status 0 or 1": the command's own; and "status 2".
abbrev pub plain : Transfer → Halt → Case
plain t h = record { moves = t; halt = h; ending = Command }

abbrev pub phase_error : Halt → Case
phase_error h = record { moves = None; halt = h; ending = PhaseError }

-- Both sides name this pipe: the device has less than is announced, equal, or more.
unfoldable pub same_way : Pipe → ℕ → ℕ → Transfer → Case
same_way p announced has t =
    when ltb has announced then plain t (halt.AfterData p)
    else (when eqb has announced then plain t halt.None
    else phase_error (halt.AtOnce p))

-- "0 bytes count as none"; a direction is ignored at length 0.
unfoldable pub counted : Transfer → Transfer
counted None = None
counted (In n) = when eqb n 0 then None else In n
counted (Out n) = when eqb n 0 then None else Out n

-- Host announces, device has, what follows.
unfoldable pub meeting : Transfer → Transfer → Case
meeting None None = plain None halt.None
meeting None (In d) = phase_error halt.None
meeting None (Out d) = phase_error halt.None
meeting (In h) None = plain None (halt.AtOnce pipe.In)
meeting (In h) (In d) = same_way pipe.In h d (In d)
meeting (In h) (Out d) = phase_error (halt.AtOnce pipe.In)
meeting (Out h) None = plain None (halt.AtOnce pipe.Out)
meeting (Out h) (In d) = phase_error (halt.AtOnce pipe.Out)
meeting (Out h) (Out d) = same_way pipe.Out h d (Out d)

unfoldable pub case_of : Transfer → Transfer → Case
case_of host device = meeting (counted host) (counted device)
