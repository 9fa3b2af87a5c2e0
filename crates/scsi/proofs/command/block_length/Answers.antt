-- `block_length` meets its contract. Assumes nothing.
use Prim.Native.Nat.{ℕ}
use mathlib.Core.Path.{refl, sym, ap}
use mathlib.Core.List.{List, [], ◌∷◌, ◌++◌}
use Rattle.wire.specs.Choice.{when◌then◌else◌, ◌and◌, look}
use Rattle.wire.proofs.Cases.{all_are, by_keys, among, covers, look_none, neither}
use Rattle.scsi.specs.Command.{Command, command_of, commands, unknown, block_length}
use Rattle.scsi.proofs.command.block_length.Goals as goal

-- the codes of the two arms
abbrev sixes : List ℕ
sixes = 0x00 ∷ 0x03 ∷ 0x12 ∷ 0x1A ∷ 0x1E ∷ []

abbrev tens : List ℕ
tens = 0x25 ∷ 0x28 ∷ 0x2A ∷ 0x2F ∷ []

pub returns-in-0 : goal.returns-in-0
unfolding all_are block_length command_of look commands when◌then◌else◌ ◌and◌
returns-in-0 c = sym (by_keys block_length 6 sixes _ refl c.in-0.is)

pub returns-in-37 : goal.returns-in-37
unfolding all_are block_length command_of look commands when◌then◌else◌ ◌and◌
returns-in-37 c = sym (by_keys block_length 10 tens _ refl c.in-37.is)

pub returns-in_default : goal.returns-in_default
unfolding among covers block_length command_of commands when◌then◌else◌ ◌and◌
returns-in_default c =
    let n = neither sixes tens c.args.code c.in_default.in_default-own.rest.0.1 c.in_default.in_default-own.rest.1 in
    sym (ap (λ (r : Command). r.size) (look_none (sixes ++ tens) commands c.args.code unknown refl n))
