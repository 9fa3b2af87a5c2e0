-- `reads_on` meets its contract. Assumes nothing.
use mathlib.Core.Path.{◌≡◌, sym, ◌∙◌}
use mathlib.Core.Bool.{true, true≢false}
use borrow.Author.Tests.{le-leb, eqb-true, eq-eqb, ne_eqb}
use Rattle.std.proofs.Common.{rules}
use Rattle.cevents.specs.Ways.{reads_on}
use Rattle.cevents.proofs.Due.{untrue, alike, free, is_free_lem, reads, reads_on_lem}
use Rattle.cevents.proofs.quick.reads_on.Goals.{then-flat-eq2, else-flat-eq2, then-flat-eq0, else-flat-eq0, then-flat-ge64, else-flat-ge64, then-buffer-ge64, else-buffer-ge64, then-in_fits, else-in_fits, Then-is_free}
use Rattle.cevents.proofs.quick.reads_on.Goals as goal

-- where each of the parts before the last holds
all_but-last : (c : Then-is_free) → (c.args.flat.left ≡ 64 → c.args.flat.residue ≡ 64) → reads_on c.args.given c.args.flat c.args.blocks c.args.buffer ≡ true
all_but-last c l =
    elim c.if-in_fits.branch [
      | then-in_fits w ↦ elim c.if-buffer-ge64.branch [
        | then-buffer-ge64 v ↦
            let h = v.if-buffer-ge64.true in
            reads_on_lem _ _ _ _ (record {
              free = free _ _ (sym w.is_free.ensures ∙ sym w.value-is ∙ c.if-is_free.true);
              stage = h.0;
              value = h.1;
              packet = h.2;
              last = l;
              running = sym v.in_fits.ensures ∙ sym v.value-is ∙ w.if-in_fits.true;
              room = h.3;
            })
        | else-buffer-ge64 v ↦ search rules
      ]
      | else-in_fits w ↦ search rules
    ]

pub returns-then-flat-ne64 : goal.returns-then-flat-ne64
returns-then-flat-ne64 c =
    let e = all_but-last (goal.at.returns-then-flat-ne64 c).Then-is_free (λ z. absurd (c.if-flat-ne64.true z)) in
    let n = ne_eqb _ _ c.if-flat-ne64.true in
    search rules

pub returns-else-flat-ne64 : goal.returns-else-flat-ne64
returns-else-flat-ne64 c =
    alike _ _
    (λ e. all_but-last (goal.at.returns-else-flat-ne64 c).Then-is_free (λ _. eqb-true _ _ e))
    (λ e. eq-eqb _ _ ((reads _ _ _ _ e).last c.if-flat-ne64.false))

pub returns-else-is_free : goal.returns-else-is_free
returns-else-is_free c =
    c.if-is_free.false ∙ untrue _
    (λ e.
    let k = c.args in
    let r = reads k.given k.flat k.blocks k.buffer e in
    let f = is_free_lem _ _ r.free in
    let value = eq-eqb _ _ r.value in
    let packet = le-leb _ _ r.packet in
    let room = le-leb _ _ r.room in
    elim c.if-buffer-ge64.branch [
      | then-buffer-ge64 v ↦ elim c.if-in_fits.branch [
        | then-in_fits w ↦ true≢false (sym f ∙ sym w.is_free.ensures ∙ sym w.value-is ∙ c.if-is_free.false)
        | else-in_fits w ↦ true≢false (sym r.running ∙ sym v.in_fits.ensures ∙ sym v.value-is ∙ w.if-in_fits.false)
      ]
      | else-buffer-ge64 v ↦ elim c.if-flat-eq2.branch [
        | then-flat-eq2 w ↦ elim c.if-flat-eq0.branch [
          | then-flat-eq0 x ↦ elim c.if-flat-ge64.branch [
            | then-flat-ge64 y ↦ search rules
            | else-flat-ge64 y ↦ search rules
          ]
          | else-flat-eq0 x ↦ search rules
        ]
        | else-flat-eq2 w ↦ w.if-flat-eq2.false r.stage
      ]
    ])
