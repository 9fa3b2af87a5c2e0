-- `data` meets its contract. Assumes nothing.
use mathlib.Core.Path.{ap}
use native.Mathlib.Omega.{arith}
use lib.ListN.{length, take}
use lib.Seq.{length-take-le}
use Rattle.printout.specs.Print.{data_text, hexes}
use Rattle.printout.proofs.Writes.{wrote_length, wrote_more, wrote_as, hexes-length, numeral-length, take_least}
use Rattle.printout.proofs.print.Text.«data».Goals as goal

pub numeral-requires : goal.numeral-requires
numeral-requires c = let w = c.append.ensures.wrote in let p = w.place in omega (arith, wrote_length _ _ _ _ _ w)

pub hexes-requires : goal.hexes-requires
hexes-requires c =
    let w = c.append.ensures.wrote in
    let x = c.numeral.ensures.wrote in
    let p = w.place in
    let q = x.place in
    let m = c.min.ensures in
    let s = c.args.lent.now in
    omega (arith, wrote_length _ _ _ _ _ w, wrote_length _ _ _ _ _ x, numeral-length c.args.n, length-take-le c.min.result s (omega arith))

pub returns-clause-wrote : goal.returns-clause-wrote
unfolding data_text
returns-clause-wrote c =
    let a = c.args in
    let w = c.append.ensures.wrote in
    let x = c.numeral.ensures.wrote in
    let p = w.place in
    let q = x.place in
    let l = numeral-length a.n in
    let s = take_least a.n c.min.result a.lent.now c.min.ensures in
    let m = length-take-le c.min.result a.lent.now (let r = c.min.ensures in omega arith) in
    let n = hexes-length (take a.n a.lent.now) in
    let k = ap length s in
    wrote_more _ _ _ _ _ _ _ _ (wrote_more _ _ _ _ _ _ _ _ w x (omega arith)) (wrote_as _ _ _ _ _ _ (ap hexes s) c.hexes.ensures.wrote) (omega arith)
