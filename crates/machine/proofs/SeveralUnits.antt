-- The examples of several units, and the tables that a making refuses, computed by the checker: a row to each `refl`. Assumes nothing.
use mathlib.Core.Path.{refl}
use Rattle.machine.specs.Sheet.{cbw, test_unit_ready, request_sense, read_capacity, on_blocks, configure, cleared, sent, hands, stalls, status, outside_data, locks, parts, events, due, told, outcome, wanted, HoldOver}
use Rattle.machine.specs.RefusedBlock.{no_data}
use Rattle.machine.specs.SeveralUnits.{for_unit, senses_of, fails_in, outside200, last_block, highest, writes, reads, examples, making, SeveralUnits}
use Rattle.machine.proofs.Compute.{computes}

pub several_units : SeveralUnits
unfolding computes cbw test_unit_ready request_sense read_capacity on_blocks configure cleared sent hands stalls status outside_data locks parts events due told outcome wanted HoldOver no_data for_unit senses_of fails_in outside200 last_block highest writes reads examples making
several_units = record {
  rows = (refl, (refl, (refl, (refl, (refl, (refl, (refl, (refl, (refl, (refl, tt))))))))));
  one = (refl, tt);
  four = (refl, tt);
  none = refl;
  five = refl;
  empty = refl;
  large = refl;
  late = refl;
  apart = refl;
  short = refl;
  whole = refl;
  used = refl;
}
