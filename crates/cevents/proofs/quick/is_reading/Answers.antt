-- `is_reading` meets its contract. Assumes nothing.
use Prim.Native.Nat.{◌≤◌}
use mathlib.Core.Path.{sym, ◌∙◌}
use mathlib.Core.Bool.{true≢false}
use native.Mathlib.Omega.{arith}
use borrow.Author.Tests.{leb-true, le-leb}
use Rattle.std.proofs.Common.{rules}
use Rattle.cevents.proofs.Due.{untrue, alike, under, is_under, digits_are}
use Rattle.cevents.proofs.quick.is_reading.Goals.{then-digits-eq258, else-digits-eq258, then-in_fits, else-in_fits}
use Rattle.cevents.proofs.quick.is_reading.Goals as goal

pub returns-then-flat-le127 : goal.returns-then-flat-le127
returns-then-flat-le127 c =
    elim c.if-in_fits.branch [
      | then-in_fits w ↦ elim c.if-digits-eq258.branch [
        | then-digits-eq258 v ↦
            let a = c.args.flat in
            let d = digits_are a.stage a.flags a.value a.extra (omega arith) (omega arith) v.if-digits-eq258.true in
            let k : a.address ≤ 127 = leb-true _ _ (sym w.value-is ∙ c.if-flat-le127.true) in
            alike _ _
            (λ e. is_under _ _ _ (record {
              stage = d.first;
              value = d.third;
              running = sym v.in_fits.ensures ∙ sym v.value-is ∙ w.if-in_fits.true;
              free = record { flags = d.second; extra = d.fourth; address = k; number = sym c.number_fits.ensures ∙ e };
            }))
            (λ e. c.number_fits.ensures ∙ (under _ _ _ e).free.number)
        | else-digits-eq258 v ↦ search rules
      ]
      | else-in_fits w ↦ search rules
    ]

pub returns-else-flat-le127 : goal.returns-else-flat-le127
returns-else-flat-le127 c =
    c.if-flat-le127.false ∙ untrue _
    (λ e.
    let r = under _ _ _ e in
    elim c.if-digits-eq258.branch [
      | then-digits-eq258 v ↦ elim c.if-in_fits.branch [
        | then-in_fits w ↦ true≢false (sym (w.value-is ∙ le-leb _ _ r.free.address) ∙ c.if-flat-le127.false)
        | else-in_fits w ↦ true≢false (sym r.running ∙ sym v.in_fits.ensures ∙ sym v.value-is ∙ w.if-in_fits.false)
      ]
      | else-digits-eq258 v ↦ absurd (v.if-digits-eq258.false (omega (arith, r.stage, r.value, r.free.flags, r.free.extra)))
    ])
