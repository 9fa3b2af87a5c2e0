-- `passes` meets its contract. Assumes nothing.
use mathlib.Core.Path.{sym, ◌∙◌}
use Rattle.cevents.proofs.Due.{free}
use Rattle.cevents.proofs.quick.passes.Goals as goal

pub returns-then-buffer-ge64 : goal.returns-then-buffer-ge64
returns-then-buffer-ge64 c =
    let h = c.if-buffer-ge64.true in
    λ e.
    record {
      free = free _ _ (sym c.is_free.ensures ∙ e);
      stage = h.0;
      place = h.1;
      none = h.2;
      value = h.3;
      running = h.4;
      room = h.5;
    }
