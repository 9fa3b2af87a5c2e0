-- `fits_over` meets its contract. Assumes nothing.
use Prim.Native.Nat.{ℕ, ◌+◌, ◌*◌}
use mathlib.Core.Path.{◌≡◌, sym, ◌∙◌, ap}
use lib.Dec.{eqb}
use native.Mathlib.Omega.{arith}
use Rattle.std.proofs.Common.{◌<◌, length}
use Rattle.std.proofs.lemmas.List.{drop_all}
use Rattle.wire.specs.Choice.{◌and◌}
use Rattle.machine.specs.Units.{Table, every, follow, total}
use Rattle.units.proofs.Tables.{sized}
use Rattle.cevents.proofs.Over.{over, elsewhere, no_size, no_switch, goes_on, whole, none, too-many}
use Rattle.cevents.proofs.place.fits_over.Goals.{then-units-lt1-via-then-units-lt1, then-units-lt1-via-else-units-lt1+then-units-gt4}
use Rattle.cevents.proofs.place.fits_over.Goals.{then-unit-next-via-then-unit-next, then-unit-next-via-else-unit-next+then-not-size_fits, then-unit-next-via-else-unit-next+else-not-size_fits+then-not-switch_fits}
use Rattle.cevents.proofs.place.fits_over.Goals as goal

pub returns-then-units-lt1 : goal.returns-then-units-lt1
unfolding ◌and◌
returns-then-units-lt1 c =
    let a = c.args in
    elim c.then-units-lt1.branch [
      | then-units-lt1-via-then-units-lt1 w ↦ simp (none a.units.now a.medium w.if-units-lt1.true)
      | then-units-lt1-via-else-units-lt1+then-units-gt4 w ↦ simp (too-many a.units.now a.medium w.if-units-gt4.true)
    ]

pub returns-then-unit-next : goal.returns-then-unit-next
returns-then-unit-next c =
    let a = c.args in
    let l = c.loop-unit in
    let k : l.unit-index < length a.units.now = omega arith in
    let e = whole a.units.now a.medium (omega arith) (omega arith) in
    elim c.then-unit-next.branch [
      | then-unit-next-via-then-unit-next w ↦ sym (l.invariant.1 ∙ elsewhere _ _ _ _ _ k w.if-unit-next.true) ∙ e
      | then-unit-next-via-else-unit-next+then-not-size_fits w ↦ sym (l.invariant.1 ∙ no_size _ _ _ _ _ k w.if-unit-next.false (sym w.size_fits.ensures ∙ w.if-not-size_fits.true)) ∙ e
      | then-unit-next-via-else-unit-next+else-not-size_fits+then-not-switch_fits w ↦
          sym (l.invariant.1 ∙ no_switch _ _ _ _ _ k w.if-unit-next.false (sym w.size_fits.ensures ∙ w.if-not-size_fits.false) (sym w.switch_fits.ensures ∙ w.if-not-switch_fits.true)) ∙ e
    ]

pub overflow_add-next : goal.overflow_add-next
overflow_add-next c =
    let l = c.loop-unit in
    let b = sized _ (sym c.size_fits.ensures ∙ c.if-not-size_fits.false) in
    let m = l.invariant.0 in
    omega arith

pub loop-unit-preserved : goal.loop-unit-preserved
loop-unit-preserved c =
    let l = c.loop-unit in
    let e = sym c.size_fits.ensures ∙ c.if-not-size_fits.false in
    let b = sized _ e in
    let m = l.invariant.0 in
    let k : l.unit-index < length c.args.units.now = omega arith in
    (omega arith, l.invariant.1 ∙ goes_on _ _ _ _ _ k c.if-unit-next.false e (sym c.switch_fits.ensures ∙ c.if-not-switch_fits.false))

pub returns : goal.returns
unfolding ◌and◌ follow every total
returns c =
    let a = c.args in
    let l = c.loop-unit in
    ap (λ (k : ℕ). eqb a.medium (512 * k)) (let z : l.next ≡ l.next + 0 = omega arith in z)
    ∙ sym (sym (whole a.units.now a.medium (omega arith) (omega arith)) ∙ l.invariant.1 ∙ ap (λ (t : Table). over l.next t a.medium) (drop_all l.unit-index a.units.now (omega arith)))
