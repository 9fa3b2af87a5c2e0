-- `fits` meets its contract. Assumes nothing.
use mathlib.Core.Path.{◌≡◌, refl, ◌∙◌}
use lib.Dec.{leb}
use Rattle.wire.specs.Choice.{◌and◌}
use Rattle.machine.specs.Units.{switches_fit}
use Rattle.machine.specs.Fits.{number_fits, address_fits, idle_fits, lock_fits, task_fits, fits}
use Rattle.state.proofs.Conditions.{and_assoc, then_and, else_and}
use Rattle.state.proofs.fits.fits.Goals.{then-laid_out, else-laid_out, then-switches_fit, else-switches_fit, then-number_fits, else-number_fits, then-state-le127, else-state-le127, then-idle_fits, else-idle_fits}
use Rattle.state.proofs.fits.fits.Goals as goal

pub returns-then-lock_fits : goal.returns-then-lock_fits
unfolding fits address_fits
returns-then-lock_fits c =
    let k = c.args in
    let p : c.if-laid_out.value ≡ (c.laid_out.result and switches_fit k.units.now) = elim c.if-laid_out.branch [
      | then-laid_out w ↦ then_and _ _ _ w.if-laid_out.true (w.value-is ∙ w.switches_fit.ensures)
      | else-laid_out w ↦ else_and _ _ _ w.if-laid_out.false w.value-is
    ] in
    let q : c.if-switches_fit.value ≡ (c.if-laid_out.value and number_fits k.identity.number) = elim c.if-switches_fit.branch [
      | then-switches_fit w ↦ then_and _ _ _ w.if-switches_fit.true (w.value-is ∙ w.number_fits.ensures)
      | else-switches_fit w ↦ else_and _ _ _ w.if-switches_fit.false w.value-is
    ] in
    let r : c.if-number_fits.value ≡ (c.if-switches_fit.value and leb k.state.address 127) = elim c.if-number_fits.branch [
      | then-number_fits w ↦ then_and _ _ _ w.if-number_fits.true w.value-is
      | else-number_fits w ↦ else_and _ _ _ w.if-number_fits.false w.value-is
    ] in
    let s : c.if-state-le127.value ≡ (c.if-number_fits.value and idle_fits k.state k.units.now) = elim c.if-state-le127.branch [
      | then-state-le127 w ↦ then_and _ _ _ w.if-state-le127.true (w.value-is ∙ w.idle_fits.ensures)
      | else-state-le127 w ↦ else_and _ _ _ w.if-state-le127.false w.value-is
    ] in
    let t : c.if-idle_fits.value ≡ (c.if-state-le127.value and lock_fits k.state.link) = elim c.if-idle_fits.branch [
      | then-idle_fits w ↦ then_and _ _ _ w.if-idle_fits.true (w.value-is ∙ w.lock_fits.ensures)
      | else-idle_fits w ↦ else_and _ _ _ w.if-idle_fits.false w.value-is
    ] in
    then_and _ (task_fits k.units.now k.state.link.task) _ c.if-lock_fits.true c.task_fits.ensures ∙ simp (t, s, r, q, p, and_assoc, c.laid_out.ensures) refl

pub returns-else-lock_fits : goal.returns-else-lock_fits
unfolding fits address_fits
returns-else-lock_fits c =
    let k = c.args in
    let p : c.if-laid_out.value ≡ (c.laid_out.result and switches_fit k.units.now) = elim c.if-laid_out.branch [
      | then-laid_out w ↦ then_and _ _ _ w.if-laid_out.true (w.value-is ∙ w.switches_fit.ensures)
      | else-laid_out w ↦ else_and _ _ _ w.if-laid_out.false w.value-is
    ] in
    let q : c.if-switches_fit.value ≡ (c.if-laid_out.value and number_fits k.identity.number) = elim c.if-switches_fit.branch [
      | then-switches_fit w ↦ then_and _ _ _ w.if-switches_fit.true (w.value-is ∙ w.number_fits.ensures)
      | else-switches_fit w ↦ else_and _ _ _ w.if-switches_fit.false w.value-is
    ] in
    let r : c.if-number_fits.value ≡ (c.if-switches_fit.value and leb k.state.address 127) = elim c.if-number_fits.branch [
      | then-number_fits w ↦ then_and _ _ _ w.if-number_fits.true w.value-is
      | else-number_fits w ↦ else_and _ _ _ w.if-number_fits.false w.value-is
    ] in
    let s : c.if-state-le127.value ≡ (c.if-number_fits.value and idle_fits k.state k.units.now) = elim c.if-state-le127.branch [
      | then-state-le127 w ↦ then_and _ _ _ w.if-state-le127.true (w.value-is ∙ w.idle_fits.ensures)
      | else-state-le127 w ↦ else_and _ _ _ w.if-state-le127.false w.value-is
    ] in
    let t : c.if-idle_fits.value ≡ (c.if-state-le127.value and lock_fits k.state.link) = elim c.if-idle_fits.branch [
      | then-idle_fits w ↦ then_and _ _ _ w.if-idle_fits.true (w.value-is ∙ w.lock_fits.ensures)
      | else-idle_fits w ↦ else_and _ _ _ w.if-idle_fits.false w.value-is
    ] in
    else_and _ (task_fits k.units.now k.state.link.task) _ c.if-lock_fits.false refl ∙ simp (t, s, r, q, p, and_assoc, c.laid_out.ensures) refl
