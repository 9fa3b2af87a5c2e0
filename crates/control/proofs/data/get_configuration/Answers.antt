-- `get_configuration` meets its contract. Assumes nothing.
use Rattle.wire.specs.Choice.{when◌then◌else◌}
use Rattle.machine.specs.World.{in_state}
use Rattle.machine.specs.Control.{perform}
use Rattle.control.proofs.data.get_configuration.Goals as goal

pub returns-then-state : goal.returns-then-state
unfolding perform when◌then◌else◌
returns-then-state c = λ w. simp c.if-state.true (c.send.ensures (in_state w c.args.state))

pub returns-else-state : goal.returns-else-state
unfolding perform when◌then◌else◌
returns-else-state c = λ w. simp c.if-state.false (c.send-else-state.ensures (in_state w c.args.state))
