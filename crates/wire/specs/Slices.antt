-- Slices of bytes as lists.
use Rattle.std.specs.Prelude.{ℕ, zero, suc, ◌+◌, ◌<◌, Bool, true, false, List, [], ◌∷◌, ◌++◌, leb, eqb, length, take, drop, get_or, replicate}
use Rattle.wire.specs.Choice.{when◌then◌else◌, ◌and◌}

-- The byte at a place, 0 past the end.
abbrev pub byte_at : List ℕ → ℕ → ℕ
byte_at s i = get_or s i 0

-- The n bytes from a place on.
unfoldable pub bytes_at : ℕ → ℕ → List ℕ → List ℕ
bytes_at zero at s = []
bytes_at (suc n) at s = byte_at s at ∷ bytes_at n (at + 1) s

unfoldable pub zeros : ℕ → List ℕ
zeros n = replicate n 0

-- Every element has a property.
unfoldable pub Every : (ℕ → Type 0) → List ℕ → Type 0
Every P [] = Unit
Every P (x ∷ xs) = P x × Every P xs

-- Every element is below a bound: digits in a base, bytes at 256.
abbrev pub Below : ℕ → List ℕ → Type 0
Below b s = Every (λ x. x < b) s

-- Whether a list begins with another.
unfoldable pub starts_with : List ℕ → List ℕ → Bool
starts_with [] s = true
starts_with (x ∷ xs) [] = false
starts_with (x ∷ xs) (y ∷ ys) = eqb y x and starts_with xs ys

-- Whether two lists are the same.
unfoldable pub same : List ℕ → List ℕ → Bool
same r s = eqb (length r) (length s) and starts_with s r

-- The n bytes from a place on, as a slice has them; none, where they do not all lie in s.
unfoldable pub part : List ℕ → ℕ → ℕ → List ℕ
part s at n = when leb (at + n) (length s) then take n (drop at s) else []

-- Whether s fits into d from a place on.
unfoldable pub fits : List ℕ → ℕ → List ℕ → Bool
fits d at s = leb (at + length s) (length d)

-- d with s from a place on, the rest kept; d itself where s does not fit.
unfoldable pub placed : List ℕ → ℕ → List ℕ → List ℕ
placed d at s = when fits d at s then take at d ++ s ++ drop (at + length s) d else d
