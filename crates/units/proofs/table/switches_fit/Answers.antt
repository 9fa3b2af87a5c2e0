-- `switches_fit` meets its contract. Assumes nothing.
use Rattle.std.proofs.Common.{◌∙◌, rules, tests}
use Rattle.std.proofs.lemmas.Iterator.{YieldsList-from_slice}
use Rattle.std.proofs.lemmas.Iterator.Search.{all_from_yields_List}
use Rattle.machine.specs.Units.{switch_fits}
use Rattle.units.proofs.Tables.{every_is}
use Rattle.units.proofs.table.switches_fit.Goals as goal

pub returns : goal.returns
returns c =
    let us = c.args.units.now in
    all_from_yields_List (λ u. switch_fits u.switch) _ _ _ c.all.ensures.ran (YieldsList-from_slice us cc) (λ x b q k. search (rules, tests))
    ∙ every_is (λ u. switch_fits u.switch) us
