-- `mass_storage_reset` meets its contract. Assumes nothing.
use Rattle.wire.specs.Choice.{when◌then◌else◌}
use Rattle.machine.specs.Control.{needs_configured, perform}
use Rattle.control.proofs.requests.mass_storage_reset.Goals as goal

pub returns-then-not-state : goal.returns-then-not-state
unfolding perform needs_configured when◌then◌else◌
returns-then-not-state c = λ i m b. simp c.if-not-state.true

pub returns : goal.returns
unfolding perform needs_configured when◌then◌else◌
returns c =
    λ i m b. simp c.if-not-state.false (c.drop_command.ensures i m b _ _ _ _ c.dropped_state-next.ensures)
