-- `follow` meets its contract. Assumes nothing.
use mathlib.Core.Path.{sym, ◌∙◌, ap}
use native.Mathlib.Omega.{arith}
use Rattle.std.proofs.Common.{◌<◌, length}
use Rattle.std.proofs.lemmas.List.{drop_all}
use Rattle.machine.specs.Units.{follow}
use Rattle.units.proofs.Tables.{elsewhere, no_size, follows_on, sized}
use Rattle.units.proofs.table.follow.Goals.{then-unit-next-via-then-unit-next, then-unit-next-via-else-unit-next+then-not-size_fits}
use Rattle.units.proofs.table.follow.Goals as goal

pub returns-then-unit-next : goal.returns-then-unit-next
returns-then-unit-next c =
    let l = c.loop-unit in
    let k : l.unit-index < length c.args.units.now = omega arith in
    elim c.then-unit-next.branch [
      | then-unit-next-via-then-unit-next w ↦ sym (l.invariant.1 ∙ elsewhere _ _ _ _ k w.if-unit-next.true)
      | then-unit-next-via-else-unit-next+then-not-size_fits w ↦ sym (l.invariant.1 ∙ no_size _ _ _ _ k w.if-unit-next.false (sym w.size_fits.ensures ∙ w.if-not-size_fits.true))
    ]

pub overflow_add-next : goal.overflow_add-next
overflow_add-next c =
    let l = c.loop-unit in
    let b = sized _ (sym c.size_fits.ensures ∙ c.if-not-size_fits.false) in
    let m = l.invariant.0 in
    let k = c.requires in
    omega arith

pub loop-unit-preserved : goal.loop-unit-preserved
loop-unit-preserved c =
    let l = c.loop-unit in
    let e = sym c.size_fits.ensures ∙ c.if-not-size_fits.false in
    let b = sized _ e in
    let m = l.invariant.0 in
    let k : l.unit-index < length c.args.units.now = omega arith in
    (omega arith, l.invariant.1 ∙ follows_on _ _ _ _ k c.if-unit-next.false e)

pub returns : goal.returns
unfolding follow
returns c =
    let l = c.loop-unit in
    sym (l.invariant.1 ∙ ap (follow l.next) (drop_all l.unit-index c.args.units.now (omega arith)))
