-- `idle_fits` meets its contract. Assumes nothing.
use mathlib.Core.Path.{◌≡◌, refl, ◌∙◌}
use mathlib.Core.Bool.{not}
use Rattle.wire.specs.Choice.{when◌then◌else◌, ◌and◌}
use Rattle.scsi.specs.Sense.{is_no_sense}
use Rattle.machine.specs.Units.{every}
use Rattle.machine.specs.Fits.{idle_fits}
use Rattle.state.proofs.Conditions.{and_assoc, then_and, else_and}
use Rattle.state.proofs.fits.idle_fits.Goals.{then-is_ready, else-is_ready, then-not-link, else-not-link, then-not-link-2, else-not-link-2}
use Rattle.state.proofs.fits.idle_fits.Goals as goal

pub returns-then-state : goal.returns-then-state
unfolding idle_fits when◌then◌else◌
returns-then-state c = simp c.if-state.true

pub returns-then-not-link-3 : goal.returns-then-not-link-3
unfolding idle_fits when◌then◌else◌
returns-then-not-link-3 c =
    let k = c.args in
    let l = c.args.state.link in
    let p : c.if-is_ready.value ≡ (c.is_ready.result and not l.haltin) = elim c.if-is_ready.branch [
      | then-is_ready w ↦ then_and _ _ _ w.if-is_ready.true w.value-is
      | else-is_ready w ↦ else_and _ _ _ w.if-is_ready.false w.value-is
    ] in
    let q : c.if-not-link.value ≡ (c.if-is_ready.value and not l.haltout) = elim c.if-not-link.branch [
      | then-not-link w ↦ then_and _ _ _ w.if-not-link.true w.value-is
      | else-not-link w ↦ else_and _ _ _ w.if-not-link.false w.value-is
    ] in
    let r : c.if-not-link-2.value ≡ (c.if-not-link.value and not l.locked) = elim c.if-not-link-2.branch [
      | then-not-link-2 w ↦ then_and _ _ _ w.if-not-link-2.true w.value-is
      | else-not-link-2 w ↦ else_and _ _ _ w.if-not-link-2.false w.value-is
    ] in
    then_and _ (every (λ u. is_no_sense u.sense) k.units.now) _ c.if-not-link-3.true c.is_calm.ensures ∙ simp (r, q, p, and_assoc, c.is_ready.ensures, c.if-state.false) refl

pub returns-else-not-link-3 : goal.returns-else-not-link-3
unfolding idle_fits when◌then◌else◌
returns-else-not-link-3 c =
    let k = c.args in
    let l = c.args.state.link in
    let p : c.if-is_ready.value ≡ (c.is_ready.result and not l.haltin) = elim c.if-is_ready.branch [
      | then-is_ready w ↦ then_and _ _ _ w.if-is_ready.true w.value-is
      | else-is_ready w ↦ else_and _ _ _ w.if-is_ready.false w.value-is
    ] in
    let q : c.if-not-link.value ≡ (c.if-is_ready.value and not l.haltout) = elim c.if-not-link.branch [
      | then-not-link w ↦ then_and _ _ _ w.if-not-link.true w.value-is
      | else-not-link w ↦ else_and _ _ _ w.if-not-link.false w.value-is
    ] in
    let r : c.if-not-link-2.value ≡ (c.if-not-link.value and not l.locked) = elim c.if-not-link-2.branch [
      | then-not-link-2 w ↦ then_and _ _ _ w.if-not-link-2.true w.value-is
      | else-not-link-2 w ↦ else_and _ _ _ w.if-not-link-2.false w.value-is
    ] in
    else_and _ (every (λ u. is_no_sense u.sense) k.units.now) _ c.if-not-link-3.false refl ∙ simp (r, q, p, and_assoc, c.is_ready.ensures, c.if-state.false) refl
