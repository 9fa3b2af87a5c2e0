-- Fields of bits.
use Rattle.std.specs.Prelude.{ℕ, ◌+◌, ◌-◌, ◌/◌, ◌%◌, ◌^◌, Bool, eqb}

-- Bits lo to hi of x, as a number.
unfoldable pub bits : ℕ → ℕ → ℕ → ℕ
bits lo hi x = x / 2 ^ lo % 2 ^ (hi + 1 - lo)

-- Whether bits lo to hi of x are clear.
unfoldable pub clear : ℕ → ℕ → ℕ → Bool
clear lo hi x = eqb (bits lo hi x) 0
