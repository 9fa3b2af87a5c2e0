-- `get_max_lun` meets its contract. Assumes nothing.
use Prim.Native.Nat.{ℕ, ◌-◌}
use mathlib.Core.Path.{sym, ap, ◌∙◌}
use mathlib.Core.List.{[], ◌∷◌}
use lib.ListN.{length}
use borrow.Author.Tests.{not-true, not-false}
use Rattle.wire.specs.Choice.{when◌then◌else◌}
use Rattle.machine.specs.Units.{Table}
use Rattle.machine.specs.World.{in_state, sends}
use Rattle.machine.specs.Control.{needs_configured, perform}
use Rattle.control.proofs.data.get_max_lun.Goals as goal

pub returns-then-not-state : goal.returns-then-not-state
unfolding perform needs_configured when◌then◌else◌
returns-then-not-state c = λ w l. simp (not-true c.args.state.configured c.if-not-state.true)

pub returns : goal.returns
unfolding perform needs_configured when◌then◌else◌
returns c =
    λ w l.
    let v = in_state w c.args.state in
    simp (not-false c.args.state.configured c.if-not-state.false)
    (c.send.ensures v ∙ ap (λ (k : ℕ). sends (k ∷ []) v c.args.buffer.now) (c.saturating_sub-highest.ensures ∙ ap (λ (us : Table). length us - 1) (sym l)))
