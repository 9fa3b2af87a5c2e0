-- `is_control_clear` meets its contract: where a command's control byte stands goes by its length alone. Assumes nothing.
use Prim.Native.Nat.{ℕ, ◌-◌}
use mathlib.Core.Path.{◌≡◌, refl, sym}
use mathlib.Core.Bool.{Bool, true}
use mathlib.Core.List.{List}
use native.Mathlib.Omega.{arith}
use lib.Dec.{lit≤, leb}
use borrow.Author.Tests.{le-leb, lt-leb}
use Rattle.wire.specs.Choice.{when◌then◌else◌}
use Rattle.wire.specs.Bits.{clear}
use Rattle.wire.specs.Slices.{byte_at}
use Rattle.wire.proofs.Cases.{look-all}
use Rattle.wire.proofs.Masks.{mask}
use Rattle.scsi.specs.Command.{Command, commands, unknown, command_of, block_length, control_clear}
use Rattle.scsi.proofs.command.is_control_clear.Goals as goal

-- what the code tests
abbrev last-clear : ℕ → List ℕ → Bool
last-clear size b = when leb size 1 then true else clear 0 2 (byte_at b (size - 1))

abbrev ByLength : Command → Type 0
ByLength c = (b : List ℕ) → c.control b ≡ last-clear c.size b

every-row : (code : ℕ) → ByLength (command_of code)
unfolding command_of commands when◌then◌else◌
every-row code =
    look-all ByLength _ code unknown
    ((λ b. refl), ((λ b. refl), ((λ b. refl), ((λ b. refl), ((λ b. refl), ((λ b. refl), ((λ b. refl), ((λ b. refl), ((λ b. refl), tt)))))))))
    (λ b. refl)

by_length : (b : List ℕ) → control_clear b ≡ last-clear (block_length (byte_at b 0)) b
unfolding control_clear block_length
by_length b = every-row (byte_at b 0) b

pub returns-in-0 : goal.returns-in-0
unfolding when◌then◌else◌
returns-in-0 c = simp (by_length, sym c.byte.ensures, sym c.block_length.ensures, le-leb c.block_length.result 1 (omega (arith, c.in-0.is)))

pub returns-in_default : goal.returns-in_default
unfolding when◌then◌else◌
returns-in_default c =
    simp (
      by_length,
      sym c.byte.ensures,
      sym c.block_length.ensures,
      lt-leb c.block_length.result 1 (omega arith),
      sym c.byte-in_default.ensures,
      mask 0 2 c.byte-in_default.result (lit≤ tt),
    )
