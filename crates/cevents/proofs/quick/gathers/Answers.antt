-- `gathers` meets its contract. Assumes nothing.
use mathlib.Core.Path.{◌≡◌, sym, ◌∙◌}
use borrow.Author.Tests.{eqb-true}
use Rattle.std.proofs.Common.{rules}
use Rattle.cevents.specs.Ways.{Gathers}
use Rattle.cevents.proofs.Due.{free}
use Rattle.cevents.proofs.quick.gathers.Goals.{then-flat-ge1, else-flat-ge1, Then-out_fits}
use Rattle.cevents.proofs.quick.gathers.Goals as goal

-- where each of the parts before the last holds
all_but-last : (c : Then-out_fits) → (c.args.flat.left ≡ 1 → c.args.flat.residue ≡ 512) → Gathers c.args.given c.args.flat c.args.blocks c.args.packet
all_but-last c l =
    elim c.if-flat-ge1.branch [
      | then-flat-ge1 w ↦
          let h = w.if-flat-ge1.true in
          record {
            free = free _ _ (sym c.is_free.ensures ∙ h.0);
            stage = h.1;
            some = h.3;
            last = l;
            running = sym w.out_fits.ensures ∙ sym w.value-is ∙ c.if-out_fits.true;
            full = h.2;
          }
      | else-flat-ge1 w ↦ search rules
    ]

pub returns-then-flat-ne1 : goal.returns-then-flat-ne1
returns-then-flat-ne1 c = λ _. all_but-last (goal.at.returns-then-flat-ne1 c).Then-out_fits (λ z. absurd (c.if-flat-ne1.true z))

pub returns-else-flat-ne1 : goal.returns-else-flat-ne1
returns-else-flat-ne1 c = λ e. all_but-last (goal.at.returns-else-flat-ne1 c).Then-out_fits (λ _. eqb-true _ _ e)
