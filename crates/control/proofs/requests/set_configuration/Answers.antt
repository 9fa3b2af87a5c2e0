-- `set_configuration` meets its contract. Assumes nothing.
use Rattle.machine.specs.Control.{perform}
use Rattle.control.proofs.requests.set_configuration.Goals as goal

pub returns : goal.returns
unfolding perform
returns c = λ i m b. c.drop_command.ensures i m b _ _ _ _ c.dropped_state-next.ensures
