-- The loop of `string_descriptor`: the header, the first i characters, zeros.
use Prim.Native.Nat.{ℕ, ◌+◌, ◌*◌, ◌-◌}
use mathlib.Core.Path.{◌≡◌}
use mathlib.Core.List.{List, ◌∷◌, ◌++◌}
use lib.ListN.{length, take}
use Rattle.wire.specs.Slices.{zeros}
use Rattle.usb.specs.Descriptor.{utf16}
use Rattle.usb.proofs.descriptor.string_descriptor.Given as goal

-- the descriptor as far as i characters, in 64 bytes
abbrev pub filled : List ℕ → ℕ → List ℕ
filled text i = (2 + 2 * length text) ∷ 0x03 ∷ utf16 (take i text) ++ zeros (62 - 2 * i)

abbrev pub invariant-loop-i : goal.invariant-loop-i
invariant-loop-i l = l.bytes ≡ filled l.text l.i
