-- `no_device` meets its contract. Assumes nothing.
use Rattle.machine.specs.Record.{no_device}
use Rattle.collector.proofs.making.no_device.Goals as goal

pub returns : goal.returns
unfolding no_device
returns c = c.fresh.ensures
