-- `put_switch` meets its contract: a unit whose switch is there already is the same. Assumes nothing.
use Rattle.machine.specs.Units.{unit, with_switch}
use Rattle.units.proofs.change.put_switch.Goals as goal

pub returns-else-unit-position : goal.returns-else-unit-position
unfolding with_switch
returns-else-unit-position c = let u = c.args.unit.now in λ i. unit u.first u.blocks u.sense (c.if-unit-position.false i)
