-- Lists that `same` finds to be the same. Assumes nothing.
use Prim.Native.Nat.{ℕ}
use mathlib.Core.Path.{◌≡◌, refl}
use mathlib.Core.Bool.{true}
use mathlib.Core.List.{List, [], ◌∷◌}
use native.Mathlib.Omega.{arith}
use lib.ListN.{length}
use borrow.Author.Tests.{eqb-true, eq-eqb}
use Rattle.wire.specs.Slices.{starts_with, same}
use Rattle.wire.proofs.Cases.{both, and_true}

starts_equal : (s r : List ℕ) → length r ≡ length s → starts_with s r ≡ true → r ≡ s
unfolding starts_with
starts_equal [] [] l e = refl
starts_equal [] (y ∷ ys) l e = absurd (omega arith)
starts_equal (x ∷ xs) [] l e = absurd (omega arith)
starts_equal (x ∷ xs) (y ∷ ys) l e =
    let b = both _ _ e in
    let h = eqb-true y x b.0 in
    let t = starts_equal xs ys (omega arith) b.1 in
    λ i. h i ∷ t i

starts_self : (s : List ℕ) → starts_with s s ≡ true
unfolding starts_with
starts_self [] = refl
starts_self (x ∷ xs) = and_true _ _ (eq-eqb x x refl) (starts_self xs)

pub same_equal : (r s : List ℕ) → same r s ≡ true → r ≡ s
unfolding same
same_equal r s e = let b = both _ _ e in starts_equal s r (eqb-true _ _ b.0) b.1

pub same_self : (s : List ℕ) → same s s ≡ true
unfolding same
same_self s = and_true _ _ (eq-eqb (length s) (length s) refl) (starts_self s)
