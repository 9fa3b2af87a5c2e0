-- `acked` meets its contract. Assumes nothing.
use Rattle.wire.specs.Choice.{when◌then◌else◌}
use Rattle.machine.specs.Control.{needs_configured}
use Rattle.control.proofs.halts.acked.Goals as goal

pub returns-then-not-state : goal.returns-then-not-state
unfolding needs_configured when◌then◌else◌
returns-then-not-state c = λ w b. simp c.if-not-state.true

pub returns : goal.returns
unfolding needs_configured when◌then◌else◌
returns c = λ w b. simp c.if-not-state.false
