-- `quick_status` meets its contract. Assumes nothing.
use mathlib.Core.Path.{refl, sym}
use Rattle.cevents.proofs.Options.{no_other, some-is}
use Rattle.cevents.proofs.Ways.{quick-status}
use Rattle.cevents.proofs.packets.quick_status.Goals as goal

pub returns-then-not-passes : goal.returns-then-not-passes
returns-then-not-passes c = record { answers = λ t e. no_other _ _ e refl; keeps = λ _. (refl, refl) }

pub returns : goal.returns
returns c =
    let a = c.args in
    let h = a.held.now in
    record {
      answers = λ t e us w.
          simp (some-is _ _ e, c.from.ensures, c.ended-held.ensures, c.put.ensures.1, c.csw_bytes.ensures)
          (sym (quick-status h.given h.flat us a.medium.now a.place w a.buffer.now (c.passes.ensures c.if-not-passes.false) h.part));
      keeps = λ e. no_other _ _ refl e;
    }
