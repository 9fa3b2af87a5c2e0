-- The laws of choice, conjunction and table as rules, for goals that need no answer. Assumes nothing.
use Prim.Native.Nat.{ℕ}
use mathlib.Core.Path.{◌≡◌, refl}
use mathlib.Core.Bool.{Bool, true, false}
use mathlib.Core.List.{List, [], ◌∷◌}
use lib.Dec.{eqb}
use Rattle.wire.specs.Choice.{when◌then◌else◌, ◌and◌, Row, look}

pub when-true : {A : Type 0} (x y : A) → (when true then x else y) ≡ x
unfolding when◌then◌else◌
when-true x y = refl

pub when-false : {A : Type 0} (x y : A) → (when false then x else y) ≡ y
unfolding when◌then◌else◌
when-false x y = refl

pub and-true : (b : Bool) → (true and b) ≡ b
unfolding ◌and◌
and-true b = refl

pub and-false : (b : Bool) → (false and b) ≡ false
unfolding ◌and◌
and-false b = refl

pub look-row : {A : Type 0} (r : Row A) (rs : List (Row A)) (k : ℕ) (o : A) → look (r ∷ rs) k o ≡ (when eqb k r.key then r.entry else look rs k o)
unfolding look
look-row r rs k o = refl

pub look-none : {A : Type 0} (k : ℕ) (o : A) → look [] k o ≡ o
unfolding look
look-none k o = refl

pub ruleset choices = (when-true, when-false, and-true, and-false, look-row, look-none)
