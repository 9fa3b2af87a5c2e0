-- `refused` meets its contract. Assumes nothing.
use native.Mathlib.Omega.{arith}
use Rattle.printout.specs.Print.{refused_text}
use Rattle.printout.proofs.Writes.{wrote_length, wrote_more, numeral-length}
use Rattle.printout.proofs.print.Text.refused.Goals as goal

pub numeral-requires : goal.numeral-requires
numeral-requires c = let w = c.append.ensures.wrote in let p = w.place in omega (arith, wrote_length _ _ _ _ _ w)

pub returns-clause-wrote : goal.returns-clause-wrote
unfolding refused_text
returns-clause-wrote c = let w = c.append.ensures.wrote in let p = w.place in
    let l = numeral-length c.args.number in
    wrote_more _ _ _ _ _ _ _ _ w c.numeral.ensures.wrote (omega arith)
