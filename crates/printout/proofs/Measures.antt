-- A numeral's width and the room for a line, over the library's tests: for its tactics. Assumes nothing.
use Prim.Native.Nat.{ℕ, ◌+◌}
use mathlib.Core.Path.{◌≡◌, refl}
use mathlib.Core.Bool.{Bool, true, false}
use mathlib.Core.List.{List}
use lib.Dec.{leb, ltb}
use lib.ListN.{length}
use Rattle.std.proofs.Common.{cond}
use Rattle.wire.specs.Choice.{when◌then◌else◌}
use Rattle.printout.specs.Print.{width_of, has_room}

chosen : {A : Type 0} (b : Bool) (x y : A) → (when b then x else y) ≡ cond b x y
unfolding when◌then◌else◌
chosen true x y = refl
chosen false x y = refl

pub width_by : (n : ℕ) → width_of n ≡ cond (ltb n 10) 1 (cond (ltb n 100) 2 (cond (ltb n 1000) 3 4))
unfolding width_of
width_by n = simp chosen

pub room_by : (text : List ℕ) (at : ℕ) → has_room text at ≡ leb (at + 207) (length text)
unfolding has_room
room_by text at = refl
