-- `get_descriptor` meets its contract. Assumes nothing.
use Prim.Native.Nat.{ℕ, min}
use mathlib.Core.Path.{◌≡◌, sym, ap, ◌∙◌}
use mathlib.Core.List.{List}
use lib.ListN.{length, take}
use Rattle.std.proofs.Math.Nat.{min_comm}
use Rattle.std.proofs.lemmas.List.{take_min}
use Rattle.machine.specs.Record.{device}
use Rattle.machine.specs.World.{world}
use Rattle.machine.specs.Control.{perform}
use Rattle.usb.specs.Descriptor.{descriptor_data, descriptor_packet}
use Rattle.wire.proofs.Packets.{held}
use Rattle.control.proofs.Lengths.{descriptor_long}
use Rattle.control.proofs.data.get_descriptor.Goals as goal

pub returns : goal.returns
unfolding perform descriptor_packet
returns c =
    λ s p m us.
    let a = c.args in
    let d = descriptor_data a.which a.identity in
    let h = c.as_slice-bytes.ensures ∙ (held _ _ c.descriptor_bytes-packet.ensures (descriptor_long a.which a.identity)).slice in
    let e : take c.min.result c.as_slice-bytes.result.now ≡ take a.wlength d =
    ap (λ (k : ℕ). take k c.as_slice-bytes.result.now) c.min.ensures
    ∙ ap (λ (l : List ℕ). take (min (length l) a.wlength) l) h
    ∙ ap (λ (k : ℕ). take k d) (min_comm (length d) a.wlength)
    ∙ take_min a.wlength d
    in simp (sym e) (c.send.ensures (world (device a.identity s p) us m))
