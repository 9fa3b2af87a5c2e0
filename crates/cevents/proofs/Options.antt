-- What an Option that stands for a choice tells. Assumes nothing.
use Prim.Native.Nat.{ℕ}
use mathlib.Core.Path.{◌≡◌, refl, sym, ◌∙◌}
use mathlib.Core.Bool.{Bool, true, false}
use native.Mathlib.Omega.{arith}
use Rattle.std.specs.Prelude.{Option, Some, None}
use Rattle.wire.specs.Choice.{when◌then◌else◌}

none-by : {A : Type 0} (b : Bool) (x : A) → None ≡ (when b then Some x else None) → b ≡ false
unfolding when◌then◌else◌
none-by true x e = let z : ◌≡◌ {A = ℕ} 0 1 = cc in absurd (omega arith)
none-by false x e = refl

some-by : {A : Type 0} (b : Bool) (x s : A) → Some s ≡ (when b then Some x else None) → (b ≡ true) × (s ≡ x)
unfolding when◌then◌else◌
some-by true x s e = (refl, cc)
some-by false x s e = let z : ◌≡◌ {A = ℕ} 0 1 = cc in absurd (omega arith)

module _ {A : Type 0} (b : Bool) (x : A) (r : Option A) (e : r ≡ when b then Some x else None) where
  pub was-none : r ≡ None → b ≡ false
  was-none z = none-by b x (sym z ∙ e)

  pub was-some : (s : A) → r ≡ Some s → (b ≡ true) × (s ≡ x)
  was-some s z = some-by b x s (sym z ∙ e)

pub no_other : {A P : Type 0} (x : A) (r : Option A) → r ≡ Some x → r ≡ None → P
no_other x r e z = let z : ◌≡◌ {A = ℕ} 0 1 = cc in absurd (omega arith)

pub some-is : {A : Type 0} (a b : A) → Some a ≡ Some b → b ≡ a
some-is a b e = cc
