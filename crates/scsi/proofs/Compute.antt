-- To unfold `scsi-computes` is to unfold the command reader's and the replies' definitions, so that the plan of a known block computes.
use Rattle.wire.specs.Choice.{when◌then◌else◌, ◌and◌, look}
use Rattle.wire.specs.Slices.{bytes_at, zeros}
use Rattle.wire.specs.Numbers.{low, value, decimal}
use Rattle.wire.specs.Texts.{padded}
use Rattle.wire.specs.Bits.{bits, clear}
use Rattle.scsi.specs.Sense.{is_no_sense, is_out_of_range}
use Rattle.scsi.specs.Command.{cut, paged, inquired, first_outside, within, unless_protected, commands, command_of, block_length, plan_by, control_clear, plan_of}
use Rattle.scsi.specs.Page.{pages, page_of, vendor_based, page_body, page_data}
use Rattle.scsi.specs.Reply.{fixed_format, sense_data, inquiry_data, mode_data, capacity_data}

unfoldable pub scsi_computes : Unit {0}
unfolding when◌then◌else◌ ◌and◌ look bytes_at zeros low value decimal bits clear is_no_sense is_out_of_range cut paged inquired first_outside within unless_protected commands command_of block_length plan_by control_clear plan_of pages page_of vendor_based page_body page_data fixed_format sense_data padded inquiry_data mode_data capacity_data
scsi_computes = tt
