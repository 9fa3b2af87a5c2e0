-- `perform` meets its contract. Assumes nothing.
use Rattle.wire.specs.Choice.{when◌then◌else◌}
use mathlib.Core.Path.{refl}
use Rattle.machine.specs.Record.{device}
use Rattle.machine.specs.World.{world}
use Rattle.machine.specs.Control.{perform}
use Rattle.control.proofs.requests.perform.Goals as goal

pub returns-in-SetAddress : goal.returns-in-SetAddress
unfolding perform
returns-in-SetAddress c = λ m. simp c.in-SetAddress.is (c.set_address.ensures (world (device c.args.identity c.args.state.now c.args.part.now) c.args.units.now m) _)

pub returns-in-SetConfiguration : goal.returns-in-SetConfiguration
unfolding perform
returns-in-SetConfiguration c = λ m. simp c.in-SetConfiguration.is (c.set_configuration.ensures c.args.identity m c.args.buffer.now)

pub returns-in-GetConfiguration : goal.returns-in-GetConfiguration
unfolding perform
returns-in-GetConfiguration c =
    λ m. simp c.in-GetConfiguration.is (c.get_configuration.ensures (world (device c.args.identity c.args.state.now c.args.part.now) c.args.units.now m))

pub returns-in-GetDeviceStatus : goal.returns-in-GetDeviceStatus
unfolding perform
returns-in-GetDeviceStatus c =
    λ m. simp c.in-GetDeviceStatus.is (c.send_flag.ensures (world (device c.args.identity c.args.state.now c.args.part.now) c.args.units.now m))

pub returns-in-GetInterfaceStatus : goal.returns-in-GetInterfaceStatus
unfolding perform
returns-in-GetInterfaceStatus c =
    λ m. simp c.in-GetInterfaceStatus.is (c.send_configured.ensures (world (device c.args.identity c.args.state.now c.args.part.now) c.args.units.now m))

pub returns-in-GetEndpointStatus : goal.returns-in-GetEndpointStatus
unfolding perform
returns-in-GetEndpointStatus c =
    λ m. simp c.in-GetEndpointStatus.is (c.endpoint_status.ensures (world (device c.args.identity c.args.state.now c.args.part.now) c.args.units.now m))

pub returns-in-ClearHalt : goal.returns-in-ClearHalt
unfolding perform when◌then◌else◌
returns-in-ClearHalt c = λ m. simp c.in-ClearHalt.is (c.set_feature.ensures (world (device c.args.identity c.args.state.now c.args.part.now) c.args.units.now m) _)

pub returns-in-SetHalt : goal.returns-in-SetHalt
unfolding perform when◌then◌else◌
returns-in-SetHalt c = λ m. simp c.in-SetHalt.is (c.set_feature-in-SetHalt.ensures (world (device c.args.identity c.args.state.now c.args.part.now) c.args.units.now m) _)

pub returns-in-MassStorageReset : goal.returns-in-MassStorageReset
unfolding perform
returns-in-MassStorageReset c = λ m. simp c.in-MassStorageReset.is (c.mass_storage_reset.ensures c.args.identity m c.args.buffer.now)

pub returns-in-GetMaxLun : goal.returns-in-GetMaxLun
unfolding perform
returns-in-GetMaxLun c =
    λ m. simp c.in-GetMaxLun.is (c.get_max_lun.ensures (world (device c.args.identity c.args.state.now c.args.part.now) c.args.units.now m) refl)

pub returns-in-GetDescriptor : goal.returns-in-GetDescriptor
unfolding perform
returns-in-GetDescriptor c =
    λ m. simp c.in-GetDescriptor.is (c.get_descriptor.ensures c.args.state.now c.args.part.now m c.args.units.now)

pub returns-in-Stall : goal.returns-in-Stall
unfolding perform
returns-in-Stall c = λ m. simp c.in-Stall.is
