-- `hexes` meets its contract. Assumes nothing.
use mathlib.Core.Path.{refl, ap, ◌∙◌}
use mathlib.Core.List.{◌++◌}
use native.Mathlib.Omega.{arith}
use lib.ListN.{length, take}
use lib.Seq.{length-take-le}
use Rattle.printout.specs.Print.{hexes}
use Rattle.printout.proofs.Writes.{wrote_none, wrote_more, wrote_as, wrote_length, hexes-length, hexes-step}
use Rattle.printout.proofs.print.Text.hexes.Goals as goal

pub loop-x-init : goal.loop-x-init
unfolding hexes
loop-x-init c = record { same = refl; wrote = wrote_none _ _ }

pub append-requires : goal.append-requires
append-requires c =
    let l = c.loop-x in
    let w = l.invariant.wrote in
    let s = c.args.s.now in
    let p = w.place in
    let k = ap length c.hex.ensures in
    omega (arith, wrote_length _ _ _ _ _ w, hexes-length (take l.x-index s), length-take-le l.x-index s (omega arith))

pub loop-x-preserved : goal.loop-x-preserved
loop-x-preserved c =
    let l = c.loop-x in
    let w = l.invariant.wrote in
    let s = c.args.s.now in
    let p = w.place in
    let n = hexes-length (take l.x-index s) in
    let m = length-take-le l.x-index s (omega arith) in
    let k = ap length c.hex.ensures in
    record {
      same = c.append.ensures.same ∙ l.invariant.same;
      wrote =
          wrote_as _ _ _ _ _ _ (ap (λ u. hexes (take l.x-index s) ++ u) c.hex.ensures ∙ hexes-step s l.x-index _ _ (omega arith) refl refl)
          (wrote_more _ _ _ _ _ _ _ _ w c.append.ensures.wrote (omega arith));
    }
