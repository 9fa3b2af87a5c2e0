-- A descriptor is at most a packet. Assumes nothing.
use Prim.Native.Nat.{◌≤◌}
use native.Mathlib.Omega.{arith}
use lib.ListN.{length}
use Rattle.wire.specs.Numbers.{low, decimal}
use Rattle.usb.specs.Descriptor.{descriptor_data, device_descriptor, configuration_descriptor, string_descriptor, utf16}
use Rattle.usb.specs.declared.descriptor.Identity.{Identity}
use Rattle.usb.specs.declared.descriptor.Descriptor.{Descriptor}
use Rattle.usb.specs.declared.descriptor.Descriptor.TheVariants as descriptor

pub descriptor_long : (w : Descriptor) (i : Identity) → length (descriptor_data w i) ≤ 64
unfolding device_descriptor configuration_descriptor string_descriptor utf16 decimal low
descriptor_long descriptor.Device i = omega arith
descriptor_long descriptor.Configuration i = omega arith
descriptor_long descriptor.Languages i = omega arith
descriptor_long descriptor.Vendor i = omega arith
descriptor_long descriptor.Product i = omega arith
descriptor_long descriptor.Serial i = omega arith
