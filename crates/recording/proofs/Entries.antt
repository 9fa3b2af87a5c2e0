-- The kind of an entry, and whether a recording is well formed, over the library's tests: for its tactics. Assumes nothing.
use Prim.Native.Nat.{ℕ, ◌+◌, ◌*◌}
use mathlib.Core.List.{List}
use lib.ListN.{length, drop}
use mathlib.Core.Path.{◌≡◌, refl}
use mathlib.Core.Bool.{Bool, true, false, ◌&&◌}
use lib.Dec.{leb, ltb, eqb}
use Rattle.std.proofs.Common.{cond, Some, None}
use Rattle.wire.specs.Choice.{when◌then◌else◌, ◌and◌}
use Rattle.machine.specs.Units.{switch_fits}
use Rattle.recording.specs.declared.cursor.Kind.TheVariants.{Reset, Control, Out, Ask, Switch}
use Rattle.recording.specs.Format.{kind_of, formed, count_of, is_formed}

chosen : {A : Type 0} (b : Bool) (x y : A) → (when b then x else y) ≡ cond b x y
unfolding when◌then◌else◌
chosen true x y = refl
chosen false x y = refl

joined : (a b : Bool) → (a and b) ≡ (a && b)
unfolding ◌and◌
joined true b = refl
joined false b = refl

pub kind_by : (first second n position unit units : ℕ) → kind_of first second n position unit units
    ≡ cond (eqb second 0)
    (cond (eqb first 1) (cond (eqb n 0) (Some Reset) None)
    (cond (eqb first 2) (cond (eqb n 8) (Some Control) None)
    (cond (eqb first 3) (cond (leb n 64) (Some Out) None)
    (cond (eqb first 4) (cond (eqb n 0) (Some Ask) None)
    (cond (eqb first 5) (cond (eqb n 2 && (leb position 1 && ltb unit units)) (Some Switch) None) None)))))
    None
unfolding kind_of switch_fits
kind_by first second n position unit units = simp (chosen, joined)

pub formed_by : (units : ℕ) (s : List ℕ) → is_formed units s
    ≡ (leb 2 (length s)
    && (leb (length s) 16384
    && (leb (count_of s) 1024
    && (leb (2 + 4 * count_of s) (length s)
    && formed units (count_of s) (drop 2 s) (drop (2 + 4 * count_of s) s)))))
unfolding is_formed
formed_by units s = simp joined
