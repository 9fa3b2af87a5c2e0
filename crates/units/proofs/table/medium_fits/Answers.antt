-- `medium_fits` meets its contract. Assumes nothing.
use mathlib.Core.Path.{sym, ◌∙◌, ap}
use native.Mathlib.Omega.{arith}
use Rattle.std.proofs.Common.{◌*◌, eqb}
use Rattle.std.proofs.lemmas.List.{drop_all}
use Rattle.machine.specs.Units.{block_size, total}
use Rattle.units.proofs.Tables.{room, no_room}
use Rattle.units.proofs.table.medium_fits.Goals as goal

pub returns-then-rest-size : goal.returns-then-rest-size
returns-then-rest-size c =
    let l = c.loop-unit in
    sym (l.invariant ∙ no_room c.args.units.now l.unit-index l.rest _ (omega arith) c.if-rest-size.true)

pub loop-unit-preserved : goal.loop-unit-preserved
loop-unit-preserved c =
    let l = c.loop-unit in
    l.invariant ∙ room c.args.units.now l.unit-index l.rest _ (omega arith) c.if-rest-size.false

pub returns : goal.returns
unfolding total
returns c =
    let l = c.loop-unit in
    sym (l.invariant ∙ ap (λ us. eqb l.rest (block_size * total us)) (drop_all l.unit-index c.args.units.now (omega arith)))
