-- The library's tests of slices are ours. Assumes nothing.
use Prim.Native.Nat.{ℕ}
use mathlib.Core.Path.{◌≡◌, refl, subst, ap₂, ◌∙◌}
use mathlib.Core.Bool.{Bool, true, false, ◌&&◌}
use mathlib.Core.List.{List, [], ◌∷◌}
use native.Mathlib.Omega.{arith}
use lib.Dec.{eqb}
use lib.ListN.{length, take}
use Rattle.std.specs.Cmp.Lexicographic.{pointwise}
use Rattle.std.proofs.lemmas.Bool.Decides.{same_from_decides}
use Rattle.std.proofs.lemmas.Slice.Eq.{bytes_eq-Decides}
use Rattle.wire.specs.Choice.{◌and◌}
use Rattle.wire.specs.Slices.{starts_with, same}
use Rattle.wire.proofs.Same.{same_equal, same_self}

both_and : (a b : Bool) → (a && b) ≡ (a and b)
unfolding ◌and◌
both_and true b = refl
both_and false b = refl

eqb-turned : (x y : ℕ) → eqb x y ≡ eqb y x
eqb-turned x y = grind arith

pub starts_is : (f s : List ℕ) → pointwise eqb f (take (length f) s) ≡ starts_with f s
unfolding starts_with
starts_is [] s = refl
starts_is (x ∷ f) [] = refl
starts_is (x ∷ f) (y ∷ s) = both_and (eqb x y) (pointwise eqb f (take (length f) s)) ∙ ap₂ ◌and◌ (eqb-turned x y) (starts_is f s)

-- both say whether the lists are equal
pub same_is : (r s : List ℕ) → pointwise eqb r s ≡ same r s
same_is r s = same_from_decides _ _ (bytes_eq-Decides r s) (same_equal r s, λ e. subst (λ (l : List ℕ). same r l ≡ true) e (same_self r))
