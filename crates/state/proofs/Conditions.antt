-- The value of a condition whose parts `&&` joins, one part more at a time. Assumes nothing.
use mathlib.Core.Path.{◌≡◌, refl, sym}
use mathlib.Core.Bool.{Bool, true, false, true≢false}
use Rattle.wire.specs.Choice.{◌and◌}

pub and_assoc : (a b c : Bool) → ((a and b) and c) ≡ (a and (b and c))
unfolding ◌and◌
and_assoc true b c = refl
and_assoc false b c = refl

-- v is the value of `a && b`: of b, where a holds, and else of a
pub then_and : (a b v : Bool) → a ≡ true → v ≡ b → v ≡ (a and b)
unfolding ◌and◌
then_and true b v p e = e
then_and false b v p e = absurd (true≢false (sym p))

pub else_and : (a b v : Bool) → a ≡ false → v ≡ a → v ≡ (a and b)
unfolding ◌and◌
else_and true b v p e = absurd (true≢false p)
else_and false b v p e = e
