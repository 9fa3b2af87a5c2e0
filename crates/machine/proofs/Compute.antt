-- To unfold `computes` is to unfold the specification machine, what it is made of, and what is noted of a run, so that closed runs compute.
use Rattle.wire.specs.Choice.{when◌then◌else◌, ◌and◌, look}
use Rattle.wire.specs.Slices.{bytes_at, zeros, starts_with, fits as room_for, placed}
use Rattle.wire.specs.Numbers.{low, value, decimal}
use Rattle.wire.specs.Bits.{bits, clear}
use Rattle.scsi.proofs.Compute.{scsi_computes}
use Rattle.cases.specs.Cases.{same_way, counted, meeting, case_of}
use Rattle.bot.specs.Cbw.{in_range, readable, header_of}
use Rattle.bot.specs.Csw.{csw_bytes}
use Rattle.usb.specs.Descriptor.{device_descriptor, configuration_descriptor, utf16, string_descriptor}
use Rattle.usb.specs.Request.{is_no_data, set_address, set_configuration, bare, endpoints, endpoint_of, target_of, served, descriptors, get_descriptor, requests, decided, request_of}
use Rattle.machine.specs.Units.{size_fits, switch_fits, with_sense, cleared, is_protected, with_switch, switched_to, as_made, every, total, follow, laid_out, medium_fits, part_of, with_part}
use Rattle.machine.specs.Record.{fresh, no_device, with_halts, dropped_state, with_address, moved}
use Rattle.machine.specs.Fits.{number_fits, address_fits, is_ready, idle_fits, lock_fits, out_fits, in_fits, stage_fits, task_fits, fits}
use Rattle.machine.specs.World.{dropped, in_unit}
use Rattle.machine.specs.Wrapper.{accepted, wrapper_of}
use Rattle.machine.specs.Making.{make}
use Rattle.machine.specs.Control.{reset, needs_configured, flag, endpoint_status, halt_in, halt_out, clear_halt, set_halt, perform}
use Rattle.machine.specs.Begin.{host_of, has_of, sense_of, own_status, reply_of, data_stage, first_stage, halts_in, halts_out, sensed, staged, begun_by, begun, begun_unit}
use Rattle.machine.specs.Bulk.{locked_state, on_wrapper, cut_state, cut_short, gathered_state, gathered, next_out, halt_at_end, stored_state, stored_block, on_data, out_stage, packet_out, next_in, handed_state, next_packet, after_status, ask_stage, ask, bytes_of, deliver, packet_in}
use Rattle.machine.specs.Machine.{lent, checks, check, in_order, effect, judged, step, run}
use Rattle.machine.specs.Tally.{write_of, beginning, following, taken, heard, heeded, is_ack, noted, observed, stored}
use Rattle.machine.specs.Claim.{answers, born, lived, history, recovery, setting_up, switching, settings, good_test, WrapperDue, is_drop, ends, is_refusal, is_shut, shut_at, watch, watched}

unfoldable pub computes : Unit {0}
unfolding when◌then◌else◌ ◌and◌ look bytes_at zeros starts_with room_for placed low value decimal bits clear scsi_computes same_way counted meeting case_of in_range readable header_of csw_bytes device_descriptor configuration_descriptor utf16 string_descriptor is_no_data set_address set_configuration bare endpoints endpoint_of target_of served descriptors get_descriptor requests decided request_of size_fits switch_fits with_sense cleared is_protected with_switch switched_to as_made every total follow laid_out medium_fits part_of with_part fresh no_device with_halts dropped_state with_address moved number_fits address_fits is_ready idle_fits lock_fits out_fits in_fits stage_fits task_fits fits dropped in_unit accepted wrapper_of make reset needs_configured flag endpoint_status halt_in halt_out clear_halt set_halt perform host_of has_of sense_of own_status reply_of data_stage first_stage halts_in halts_out sensed staged begun_by begun begun_unit locked_state on_wrapper cut_state cut_short gathered_state gathered next_out halt_at_end stored_state stored_block on_data out_stage packet_out next_in handed_state next_packet after_status ask_stage ask bytes_of deliver packet_in lent checks check in_order effect judged step run write_of beginning following taken heard heeded is_ack noted observed stored answers born lived history recovery setting_up switching settings good_test WrapperDue is_drop ends is_refusal is_shut shut_at watch watched
computes = tt
