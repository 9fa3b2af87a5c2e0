-- `set_address` meets its contract. Assumes nothing.
use Rattle.wire.specs.Choice.{when◌then◌else◌}
use Rattle.machine.specs.Control.{perform}
use Rattle.machine.specs.Record.{with_address}
use Rattle.control.proofs.requests.set_address.Goals as goal

pub returns-then-state : goal.returns-then-state
unfolding perform when◌then◌else◌
returns-then-state c = λ w b. simp c.if-state.true

pub returns : goal.returns
unfolding perform when◌then◌else◌ with_address
returns c = λ w b. simp c.if-state.false
