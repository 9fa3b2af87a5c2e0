-- Bus reset and control requests (document 01, "Control requests"), once their checks are passed. Neither is lent a medium.
use Rattle.std.specs.Prelude.{ℕ, ◌-◌, Bool, true, false, List, [], ◌∷◌, eqb, length, take}
use Rattle.wire.specs.Choice.{when◌then◌else◌}
use Rattle.usb.specs.Descriptor.{descriptor_data}
use Rattle.usb.specs.declared.request.Endpoint.{Endpoint}
use Rattle.usb.specs.declared.request.Endpoint.TheVariants.{Control, BulkIn, BulkOut}
use Rattle.usb.specs.declared.request.Request.{Request}
use Rattle.usb.specs.declared.request.Request.TheVariants.{SetAddress, SetConfiguration, GetConfiguration, GetDeviceStatus, GetInterfaceStatus, GetEndpointStatus, ClearHalt, SetHalt, MassStorageReset, GetMaxLun, GetDescriptor}
use Rattle.usb.specs.declared.request.Request.TheVariants as request
use Rattle.machine.specs.declared.record.State.{State}
use Rattle.machine.specs.declared.answer.Answer.TheVariants.{Ack, Stall}
use Rattle.machine.specs.Record.{with_halts, with_address}
use Rattle.machine.specs.World.{World, in_state, dropped, Out, out, sends}

-- "A bus reset drops it too, clears halts, address and configuration."
unfoldable pub reset : World → World
reset w = dropped w 0 false false false

-- "C needs a configured device"; any other request stalls and changes nothing.
unfoldable pub needs_configured : World → List ℕ → Out → Out
needs_configured w b o = when w.dev.state.configured then o else out Stall w b

-- a flag as the two bytes of a status (USB 2.0, 9.4.5)
unfoldable pub flag : Bool → List ℕ
flag true = 0x01 ∷ 0x00 ∷ []
flag false = 0x00 ∷ 0x00 ∷ []

unfoldable pub endpoint_status : Endpoint → World → List ℕ → Out
endpoint_status Control w b = sends (flag false) w b
endpoint_status BulkIn w b = needs_configured w b (sends (flag w.dev.state.link.haltin) w b)
endpoint_status BulkOut w b = needs_configured w b (sends (flag w.dev.state.link.haltout) w b)

-- "Clear Feature acks without clearing until a command drop": a locked device keeps both halts, whatever is asked.
unfoldable pub halt_in : Bool → State → State
halt_in on s = with_halts s (when s.link.locked then true else on) s.link.haltout s.link.locked

unfoldable pub halt_out : Bool → State → State
halt_out on s = with_halts s s.link.haltin (when s.link.locked then true else on) s.link.locked

unfoldable pub clear_halt : Endpoint → World → List ℕ → Out
clear_halt Control w b = out Ack w b
clear_halt BulkIn w b = needs_configured w b (out Ack (in_state w (halt_in false w.dev.state)) b)
clear_halt BulkOut w b = needs_configured w b (out Ack (in_state w (halt_out false w.dev.state)) b)

unfoldable pub set_halt : Endpoint → World → List ℕ → Out
set_halt Control w b = out Stall w b
set_halt BulkIn w b = needs_configured w b (out Ack (in_state w (halt_in true w.dev.state)) b)
set_halt BulkOut w b = needs_configured w b (out Ack (in_state w (halt_out true w.dev.state)) b)

unfoldable pub perform : Request → World → List ℕ → Out
perform (SetAddress a) w b =
    when w.dev.state.configured then out Stall w b else out Ack (in_state w (with_address w.dev.state a)) b
perform (SetConfiguration v) w b = out Ack (dropped w w.dev.state.address (eqb v 1) false false) b
perform GetConfiguration w b = sends ((when w.dev.state.configured then 0x01 else 0x00) ∷ []) w b
perform GetDeviceStatus w b = sends (flag true) w b
perform GetInterfaceStatus w b = needs_configured w b (sends (flag false) w b)
perform (GetEndpointStatus e) w b = endpoint_status e w b
perform (ClearHalt e) w b = clear_halt e w b
perform (SetHalt e) w b = set_halt e w b
perform MassStorageReset w b =
    needs_configured w b (out Ack (dropped w w.dev.state.address true w.dev.state.link.haltin w.dev.state.link.haltout) b)
-- "Get Max LUN answers the highest unit" (document 02, A7; BOT 3.2)
perform GetMaxLun w b = needs_configured w b (sends ((length w.units - 1) ∷ []) w b)
perform (GetDescriptor which n) w b = sends (take n (descriptor_data which w.dev.identity)) w b
perform request.Stall w b = out Stall w b
