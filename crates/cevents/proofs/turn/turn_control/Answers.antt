-- `turn_control` meets its contract. Assumes nothing.
use mathlib.Core.Path.{◌≡◌, sym, ◌∙◌}
use mathlib.Core.Bool.{true≢false}
use Rattle.machine.specs.Machine as machine
use Rattle.machine.specs.Machine.{lent}
use Rattle.cevents.proofs.Options.{was-none, was-some}
use Rattle.cevents.proofs.Turns.{refuses, decoded, unchanged}
use Rattle.cevents.proofs.turn.turn_control.Goals.{in-Data, in_default-matches}
use Rattle.cevents.proofs.turn.turn_control.Goals as goal

pub returns-in_default : goal.returns-in_default
unfolding lent
returns-in_default c =
    λ m.
    let a = c.args in
    simp c.refused.ensures (refuses a.held.now a.units.now m (machine.control a.setup.now a.buffer.now) (was-none _ _ _ c.decode.ensures c.in_default.is))

pub returns-then-not-data : goal.returns-then-not-data
returns-then-not-data c =
    λ m.
    let a = c.args in
    let s = was-some _ _ _ c.decode.ensures _ c.in-Some.is in
    decoded a.held.now a.units.now (machine.control a.setup.now a.buffer.now) m _ _ _ _ _ _ _ _ _ _ s.0 c.from-identity.ensures s.1 (c.control_parts-answer.ensures m) c.from-told.ensures c.from-held.ensures

pub returns-else-not-data : goal.returns-else-not-data
returns-else-not-data c =
    λ m.
    let a = c.args in
    let s = was-some _ _ _ c.decode.ensures _ c.in-Some.is in
    let z : c.from-told.result.number ≡ 0 =
    elim c.match-matches.branch [
      | in-Data w ↦ simp (c.from-told.ensures, w.in-Data.is)
      | in_default-matches w ↦ absurd (true≢false (sym c.if-not-data.false ∙ w.matches-is))
    ] in
    unchanged a.held.now a.units.now a.setup.now m a.buffer.now _ _ _ _ _ _ _ _ s.0 c.from-identity.ensures s.1 (c.control_parts-answer.ensures m) c.from-told.ensures z
