-- `is_calm` meets its contract. Assumes nothing.
use Rattle.std.proofs.Common.{◌∙◌, rules, tests}
use Rattle.std.proofs.lemmas.Iterator.{YieldsList-from_slice}
use Rattle.std.proofs.lemmas.Iterator.Search.{all_from_yields_List}
use Rattle.scsi.specs.Sense.{is_no_sense}
use Rattle.units.proofs.Tables.{every_is}
use Rattle.units.proofs.table.is_calm.Goals as goal

pub returns : goal.returns
returns c =
    let us = c.args.units.now in
    all_from_yields_List (λ u. is_no_sense u.sense) _ _ _ c.all.ensures.ran (YieldsList-from_slice us cc) (λ x b q k. search (rules, tests))
    ∙ every_is (λ u. is_no_sense u.sense) us
