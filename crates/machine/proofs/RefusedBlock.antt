-- Which block was refused. Assumes nothing.
use Prim.Native.Nat.{ℕ}
use mathlib.Core.Path.{◌≡◌, refl, ap, subst, ◌∙◌}
use mathlib.Core.Bool.{true}
use lib.Seq.{get_or-set_same}
use borrow.Author.Tests.{le-leb}
use Rattle.wire.specs.Choice.{when◌then◌else◌, ◌and◌}
use Rattle.scsi.specs.Sense.{is_out_of_range}
use Rattle.scsi.specs.declared.sense.Sense.{Sense}
use Rattle.scsi.specs.declared.command.Plan.TheVariants.{Failed}
use Rattle.cases.specs.declared.Ending.{Ending}
use Rattle.cases.specs.declared.Transfer.TheVariants.{None}
use Rattle.cases.proofs.Moves.{none_moves}
use Rattle.bot.specs.Cbw.{header_of}
use Rattle.machine.specs.declared.record.LogicalUnit.{LogicalUnit}
use Rattle.machine.specs.Units.{unit_at, with_sense}
use Rattle.machine.specs.World.{Out}
use Rattle.machine.specs.Begin.{host_of, has_of, sense_of, sensed, begun_unit}
use Rattle.machine.specs.Bulk.{on_wrapper}
use Rattle.machine.specs.Sheet.{cbw, test_unit_ready, request_sense, on_blocks, configure, sent, command_in, command, hands, status, senses, outside_data, events, due, told, outcome, wanted, HoldOver, parts}
use Rattle.machine.specs.RefusedBlock.{SenseLeft, carries, BlocksCarried, refused, paper, no_data, code_data, examples, ExamplesHold}
use Rattle.machine.proofs.Beside.{taken}
use Rattle.machine.proofs.Compute.{computes}
use Rattle.machine.proofs.StepLaws.{listed}
use Rattle.machine.proofs.EverySense.{StageSense, Makes, fresh-senses, lived-senses}

-- ---- a command that fails

-- a failed command has no data, so that it never meets a phase error
pub sense-left : SenseLeft
unfolding on_wrapper begun_unit with_sense has_of sense_of sensed
sense-left w p s a =
    let h = header_of p in
    let us = w.units in
    ap (λ (o : Out). (unit_at o.world.units h.lun).sense) (taken w p _ a)
    ∙ ap (λ (u : LogicalUnit). u.sense) (get_or-set_same us h.lun (begun_unit h (Failed s) (unit_at us h.lun)) _ (listed us p a.accepts))
    ∙ ap (λ (e : Ending). sensed e (Failed s) (unit_at us h.lun).sense) (none_moves (host_of h) None refl).1

-- ---- every list of events

abbrev Carried : ℕ → Sense → Type 0
Carried blocks s = carries blocks s ≡ true

made : Makes Carried
unfolding carries is_out_of_range when◌then◌else◌ ◌and◌
made = record {
  none = λ blocks. refl;
  phase = λ blocks. refl;
  fails = λ blocks. record { code = refl; field = refl; protected = refl; range = λ block h. le-leb blocks block h };
}

pub blocks_carried : BlocksCarried
blocks_carried k ok es =
    let h = lived-senses Carried made k (fresh-senses Carried made k ok) es in
    record { units = h.units; found = λ n place left e. subst (StageSense (Carried _)) e h.stage }

-- ---- the examples, computed by the checker: a row to each `refl`

pub examples_hold : ExamplesHold
unfolding computes cbw test_unit_ready request_sense on_blocks configure sent command_in command hands status senses outside_data refused paper no_data code_data examples events due told outcome wanted HoldOver parts
examples_hold = (refl, (refl, (refl, (refl, (refl, (refl, (refl, (refl, (refl, (refl, tt))))))))))
