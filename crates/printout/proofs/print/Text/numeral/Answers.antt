-- `numeral` meets its contract. Assumes nothing.
use mathlib.Core.Path.{refl}
use Rattle.printout.proofs.Writes.{wrote_as, numeral-part}
use Rattle.printout.proofs.print.Text.numeral.Goals as goal

pub returns-clause-wrote : goal.returns-clause-wrote
returns-clause-wrote c = wrote_as _ _ _ _ _ _ (numeral-part _ _ _ _ c.digits-all.ensures c.width_of.ensures.0 c.width_of.ensures.1 refl) c.append.ensures.wrote
