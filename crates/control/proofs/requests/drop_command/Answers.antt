-- `drop_command` meets its contract. Assumes nothing.
use Rattle.machine.specs.World.{dropped}
use Rattle.control.proofs.requests.drop_command.Goals as goal

pub returns : goal.returns
unfolding dropped
returns c = λ i m b a k hi ho e. simp (e, c.clear.ensures, c.wipe.ensures)
