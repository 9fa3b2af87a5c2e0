-- The place of a unit as facts. Assumes nothing.
use Prim.Native.Nat.{ℕ, ◌*◌}
use mathlib.Core.Path.{◌≡◌, ap}
use lib.Dec.{eqb}
use borrow.Author.Tests.{ltb-true, eqb-true}
use Rattle.std.specs.Prelude.{Option, Some}
use Rattle.wire.specs.Choice.{◌and◌}
use Rattle.wire.proofs.Cases.{both}
use Rattle.machine.specs.Units.{Table, in_table, switches_fit, total, laid_out}
use Rattle.cevents.specs.declared.place.Place.{Place}
use Rattle.cevents.specs.Ways.{found, place_in, Whole}
use Rattle.cevents.proofs.Options.{was-some}

pub placed-whole : (us : Table) (n medium : ℕ) (r : Option Place) (p : Place) → r ≡ place_in us n medium → r ≡ Some p → Whole us n medium p
unfolding place_in
placed-whole us n medium r p e z =
    let k = was-some (in_table n us and laid_out us and switches_fit us and eqb medium (512 * total us)) (found us n) r e p z in
    let l = both _ _ k.0 in
    let s = both _ _ l.1 in
    let t = both _ _ s.1 in
    record {
      listed = ltb-true _ _ l.0;
      laid = s.0;
      switches = t.0;
      whole = eqb-true _ _ t.1;
      first = ap (λ (p : Place). p.first) k.1;
      blocks = ap (λ (p : Place). p.blocks) k.1;
    }
