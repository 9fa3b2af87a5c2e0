-- The bench sheet, computed by the checker: a row to each `refl`. Assumes nothing.
use mathlib.Core.Path.{refl}
use Rattle.machine.specs.Sheet.{cbw, test_unit_ready, request_sense, inquiry, read_capacity, on_blocks, configure, cleared, sent, command_in, command, hands, stalls, status, serial, senses, outside_data, out_of_range, locks, sheet, events, due, told, outcome, wanted, HoldOver, parts, SheetHolds}
use Rattle.machine.proofs.Compute.{computes}

pub sheet-holds : SheetHolds
unfolding computes cbw test_unit_ready request_sense inquiry read_capacity on_blocks configure cleared sent command_in command hands stalls status serial senses outside_data out_of_range locks sheet events due told outcome wanted HoldOver parts SheetHolds
sheet-holds = (refl, (refl, (refl, (refl, (refl, (refl, (refl, (refl, (refl, (refl, (refl, (refl, (refl, tt)))))))))))))
