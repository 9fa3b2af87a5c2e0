-- `shows_on` meets its contract. Assumes nothing.
use mathlib.Core.Path.{◌≡◌, sym, ◌∙◌}
use mathlib.Core.Bool.{true, true≢false}
use native.Mathlib.Omega.{arith}
use borrow.Author.Tests.{eqb-true, eq-eqb, ne_eqb, lt-ltb}
use Rattle.wire.proofs.Cases.{both, and_true}
use Rattle.cevents.specs.Ways.{is_reading}
use Rattle.cevents.specs.Quick.{shows_on}
use Rattle.cevents.proofs.Due.{untrue, alike, reads, reads_on_lem, reading_on, is_reading_lem}
use Rattle.cevents.proofs.showing.shows_on.Goals.{then-reply-eq0, else-reply-eq0}
use Rattle.cevents.proofs.showing.shows_on.Goals as goal

pub returns-then-flat-gt64 : goal.returns-then-flat-gt64
unfolding shows_on
returns-then-flat-gt64 c =
    let a = c.args in
    let h = c.if-flat-gt64.true in
    let r : (a.reply ≡ 0) × (is_reading a.given a.flat a.blocks ≡ true) =
    elim c.if-reply-eq0.branch [
      | then-reply-eq0 w ↦ (w.if-reply-eq0.true, sym w.is_reading.ensures ∙ sym w.value-is ∙ c.if-is_reading.true)
      | else-reply-eq0 w ↦ absurd (w.if-reply-eq0.false (eqb-true _ _ (sym w.value-is ∙ c.if-is_reading.true)))
    ] in
    let q = reading_on _ _ _ r.1 (omega arith) (λ z. absurd (omega (arith, h))) in
    lt-ltb _ _ h ∙ sym (and_true _ _ (eq-eqb _ _ r.0) (reads_on_lem _ _ _ _ q))

pub returns-then-flat-eq64 : goal.returns-then-flat-eq64
unfolding shows_on
returns-then-flat-eq64 c =
    let a = c.args in
    let h = c.if-flat-eq64.true in
    let r : (a.reply ≡ 0) × (is_reading a.given a.flat a.blocks ≡ true) =
    elim c.if-reply-eq0.branch [
      | then-reply-eq0 w ↦ (w.if-reply-eq0.true, sym w.is_reading.ensures ∙ sym w.value-is ∙ c.if-is_reading.true)
      | else-reply-eq0 w ↦ absurd (w.if-reply-eq0.false (eqb-true _ _ (sym w.value-is ∙ c.if-is_reading.true)))
    ] in
    alike _ _
    (λ e.
    let q = reading_on _ _ _ r.1 (omega (arith, h)) (λ _. eqb-true _ _ e) in
    and_true _ _ (eq-eqb _ _ r.0) (reads_on_lem _ _ _ _ q))
    (λ e. eq-eqb _ _ ((reads _ _ _ _ (both _ _ e).1).last h))

pub returns-else-flat-eq64 : goal.returns-else-flat-eq64
unfolding shows_on
returns-else-flat-eq64 c =
    let n = c.if-flat-eq64.false in
    ne_eqb _ _ n ∙ untrue _ (λ e. n (omega (arith, c.if-flat-gt64.false, (reads _ _ _ _ (both _ _ e).1).packet)))

pub returns-else-is_reading : goal.returns-else-is_reading
unfolding shows_on
returns-else-is_reading c =
    c.if-is_reading.false
    ∙ untrue _ (λ e.
    elim c.if-reply-eq0.branch [
      | then-reply-eq0 w ↦ true≢false (sym (w.value-is ∙ w.is_reading.ensures ∙ is_reading_lem _ _ _ _ (reads _ _ _ _ (both _ _ e).1)) ∙ c.if-is_reading.false)
      | else-reply-eq0 w ↦ w.if-reply-eq0.false (eqb-true _ _ (both _ _ e).0)
    ])
