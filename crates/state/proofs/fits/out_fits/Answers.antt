-- `out_fits` meets its contract. Assumes nothing.
use mathlib.Core.Path.{◌≡◌, refl, ◌∙◌}
use lib.Dec.{leb, ltb, eqb}
use borrow.Author.Tests.{le-leb, lt-leb}
use Rattle.std.proofs.Common.{◌+◌, ◌*◌, ◌%◌}
use Rattle.wire.specs.Choice.{◌and◌}
use Rattle.machine.specs.Fits.{out_fits}
use Rattle.state.proofs.Conditions.{and_assoc, then_and, else_and}
use Rattle.state.proofs.fits.out_fits.Goals.{then-block-left, else-block-left, then-held-eq0, else-held-eq0, then-held-lt512, else-held-lt512}
use Rattle.state.proofs.fits.out_fits.Goals as goal

pub returns-then-left-residue : goal.returns-then-left-residue
unfolding out_fits
returns-then-left-residue c =
    let k = c.args in
    let p : c.if-block-left.value ≡ (leb (k.block + k.left) k.blocks and eqb (k.held % 64) 0) = elim c.if-block-left.branch [
      | then-block-left w ↦ then_and _ _ _ (le-leb _ _ w.if-block-left.true) w.value-is
      | else-block-left w ↦ else_and _ _ _ (lt-leb _ _ w.if-block-left.false) w.value-is
    ] in
    let q : c.if-held-eq0.value ≡ (c.if-block-left.value and ltb k.held 512) = elim c.if-held-eq0.branch [
      | then-held-eq0 w ↦ then_and _ _ _ w.if-held-eq0.true w.value-is
      | else-held-eq0 w ↦ else_and _ _ _ w.if-held-eq0.false w.value-is
    ] in
    let r : c.if-held-lt512.value ≡ (c.if-held-eq0.value and leb (512 * k.left) k.residue) = elim c.if-held-lt512.branch [
      | then-held-lt512 w ↦ then_and _ _ _ w.if-held-lt512.true w.value-is
      | else-held-lt512 w ↦ else_and _ _ _ w.if-held-lt512.false w.value-is
    ] in
    then_and _ (leb k.residue k.announced) _ c.if-left-residue.true refl ∙ simp (r, q, p, and_assoc) refl

pub returns-else-left-residue : goal.returns-else-left-residue
unfolding out_fits
returns-else-left-residue c =
    let k = c.args in
    let p : c.if-block-left.value ≡ (leb (k.block + k.left) k.blocks and eqb (k.held % 64) 0) = elim c.if-block-left.branch [
      | then-block-left w ↦ then_and _ _ _ (le-leb _ _ w.if-block-left.true) w.value-is
      | else-block-left w ↦ else_and _ _ _ (lt-leb _ _ w.if-block-left.false) w.value-is
    ] in
    let q : c.if-held-eq0.value ≡ (c.if-block-left.value and ltb k.held 512) = elim c.if-held-eq0.branch [
      | then-held-eq0 w ↦ then_and _ _ _ w.if-held-eq0.true w.value-is
      | else-held-eq0 w ↦ else_and _ _ _ w.if-held-eq0.false w.value-is
    ] in
    let r : c.if-held-lt512.value ≡ (c.if-held-eq0.value and leb (512 * k.left) k.residue) = elim c.if-held-lt512.branch [
      | then-held-lt512 w ↦ then_and _ _ _ w.if-held-lt512.true w.value-is
      | else-held-lt512 w ↦ else_and _ _ _ w.if-held-lt512.false w.value-is
    ] in
    else_and _ (leb k.residue k.announced) _ c.if-left-residue.false refl ∙ simp (r, q, p, and_assoc) refl
