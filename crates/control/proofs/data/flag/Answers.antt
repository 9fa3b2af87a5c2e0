-- `flag` meets its contract. Assumes nothing.
use Rattle.machine.specs.Control.{flag}
use Rattle.control.proofs.data.flag.Goals as goal

pub returns-then-on : goal.returns-then-on
unfolding flag
returns-then-on c = simp c.if-on.true

pub returns-else-on : goal.returns-else-on
unfolding flag
returns-else-on c = simp c.if-on.false
