-- What holds of each sense that is made holds of every sense that a collector holds, its units' and one that a reply found, whatever the events. Assumes nothing.
use Prim.Native.Nat.{ℕ, zero, suc}
use mathlib.Core.Path.{sym, subst}
use mathlib.Core.List.{List, [], ◌∷◌}
use lib.ListN.{set}
use Rattle.scsi.specs.Sense.{no_sense, data_phase}
use Rattle.scsi.specs.declared.command.Plan.{Plan}
use Rattle.scsi.specs.declared.command.Plan.TheVariants.{Failed, Nothing, Reply, Read, Write}
use Rattle.scsi.specs.declared.reply.ReplyKind.{ReplyKind}
use Rattle.scsi.specs.declared.reply.ReplyKind.TheVariants as kind
use Rattle.scsi.specs.declared.reply.Reply as replies
use Rattle.scsi.specs.declared.reply.Reply.TheVariants as reply
use Rattle.scsi.specs.declared.sense.Sense.{Sense}
use Rattle.scsi.proofs.Senses.{PlanSense, Failing, plan-sense}
use Rattle.cases.specs.declared.Transfer.{Transfer}
use Rattle.cases.specs.declared.Transfer.TheVariants.{None, In, Out}
use Rattle.cases.specs.declared.Ending.{Ending}
use Rattle.cases.specs.declared.Ending.TheVariants as ending
use Rattle.machine.specs.declared.record.Stage.{Stage}
use Rattle.machine.specs.declared.record.Stage.TheVariants.{Ready, DataOut, DataIn, ReplyIn, StatusDue}
use Rattle.machine.specs.declared.record.Task.{Task}
use Rattle.machine.specs.declared.record.LogicalUnit.{LogicalUnit}
use Rattle.machine.specs.declared.record.Device.{Device}
use Rattle.machine.specs.Units.{Table, unit_at, with_sense, with_switch, switched_to, as_made}
use Rattle.machine.specs.Record.{fresh, no_device, dropped_state, moved}
use Rattle.machine.specs.World.{World, world, dropped}
use Rattle.machine.specs.Making.{Made}
use Rattle.machine.specs.Begin.{sense_of, reply_of, data_stage, first_stage, sensed, staged, begun_by, begun, begun_unit}
use Rattle.machine.specs.Bulk.{on_wrapper, cut_state, cut_short}
use Rattle.machine.specs.Machine.{Event, step}
use Rattle.machine.specs.Tally.{Making}
use Rattle.machine.specs.Claim.{born, Makes as IsMade, lived}
use Rattle.machine.proofs.Along.{always}
use Rattle.machine.proofs.StepLaws.{Next, same, status_next_lem, block_next, byte_next, reply_next, Later, on, over, sensed_at, Changed, moves, drops, begins, turns, cuts, changes}
use Rattle.machine.proofs.Tables.{unit-cleared, cleared-sensed, unit-made, made-switched, same_parts, same_blocks}
use Rattle.machine.proofs.Making.{by_making, born-fresh}

abbrev ReplySense : (Sense → Type 0) → replies.Reply → Type 0
ReplySense P (reply.Sense s) = P s
ReplySense P reply.Inquiry = Unit {0}
ReplySense P (reply.Page p) = Unit {0}
ReplySense P (reply.ModeSense protected) = Unit {0}
ReplySense P (reply.Capacity n) = Unit {0}

abbrev pub StageSense : (Sense → Type 0) → Stage → Type 0
StageSense P Ready = Unit {0}
StageSense P (DataOut block left held) = Unit {0}
StageSense P (DataIn place left) = Unit {0}
StageSense P (ReplyIn r place left) = ReplySense P r
StageSense P (StatusDue x) = Unit {0}

-- It may speak of the unit's number of blocks.
abbrev UnitSense : (ℕ → Sense → Type 0) → LogicalUnit → Type 0
UnitSense P u = P u.blocks u.sense

abbrev TaskSense : (ℕ → Sense → Type 0) → Table → Task → Type 0
TaskSense P us t = StageSense (P (unit_at us t.lun).blocks) t.stage

pub record Senses (P : ℕ → Sense → Type 0) (w : World) : Type 0 where
  pub units : (n : ℕ) → UnitSense P (unit_at w.units n)
  pub stage : TaskSense P w.units w.dev.state.link.task

-- Of no sense, of data-out of a wrong length, and of a failed command.
pub record Makes (P : ℕ → Sense → Type 0) : Type 0 where
  pub none : (blocks : ℕ) → P blocks no_sense
  pub phase : (blocks : ℕ) → P blocks data_phase
  pub fails : (blocks : ℕ) → Failing (P blocks) blocks

-- what holds of every unit holds where one is put in the table
each_set : (Q : LogicalUnit → Type 0) (us : Table) (i : ℕ) (u : LogicalUnit) → ((n : ℕ) → Q (unit_at us n)) → Q u → (n : ℕ) → Q (unit_at (set us i u) n)
each_set Q [] i u h q n = h n
each_set Q (x ∷ us) zero u h q zero = q
each_set Q (x ∷ us) zero u h q (suc n) = h (suc n)
each_set Q (x ∷ us) (suc i) u h q zero = h zero
each_set Q (x ∷ us) (suc i) u h q (suc n) = each_set Q us i u (λ j. h (suc j)) q n

module _ (P : ℕ → Sense → Type 0) (made : Makes P) where
  -- ---- an accepted wrapper

  left-sense : (n : ℕ) (p : Plan) → PlanSense (P n) p → P n (sense_of p)
  unfolding sense_of
  left-sense n (Failed s) h = h
  left-sense n Nothing h = made.none n
  left-sense n (Reply k size) h = made.none n
  left-sense n (Read block count) h = made.none n
  left-sense n (Write block count) h = made.none n

  reply-sense : (k : ReplyKind) (u : LogicalUnit) → UnitSense P u → ReplySense (P u.blocks) (reply_of k u)
  unfolding reply_of
  reply-sense kind.Sense u h = h
  reply-sense kind.Inquiry u h = tt
  reply-sense (kind.Page p) u h = tt
  reply-sense kind.ModeSense u h = tt
  reply-sense kind.Capacity u h = tt

  data-sense : (p : Plan) (u : LogicalUnit) → UnitSense P u → StageSense (P u.blocks) (data_stage p u)
  unfolding data_stage
  data-sense (Failed s) u h = tt
  data-sense Nothing u h = tt
  data-sense (Reply k n) u h = reply-sense k u h
  data-sense (Read block count) u h = tt
  data-sense (Write block count) u h = tt

  first-sense : (e : Ending) (t : Transfer) (p : Plan) (u : LogicalUnit) → UnitSense P u → StageSense (P u.blocks) (staged e t p u)
  unfolding staged first_stage
  first-sense ending.Command None p u h = tt
  first-sense ending.Command (In n) p u h = data-sense p u h
  first-sense ending.Command (Out n) p u h = data-sense p u h
  first-sense ending.PhaseError t p u h = tt

  sensed-sense : (n : ℕ) (e : Ending) (p : Plan) (found : Sense) → PlanSense (P n) p → P n found → P n (sensed e p found)
  unfolding sensed
  sensed-sense n ending.Command p found f h = left-sense n p f
  sensed-sense n ending.PhaseError p found f h = h

  -- ---- one event

  next : (Q : Sense → Type 0) (g g' : Stage) → Next g g' → StageSense Q g → StageSense Q g'
  next Q g g' same h = h
  next Q g g' (status_next_lem x) h = tt
  next Q g g' (block_next block left held) h = tt
  next Q g g' (byte_next place left) h = tt
  next Q g g' (reply_next r place left place' left' e) h = subst (StageSense Q) e h

  later : (us : Table) (t t' : Task) → Later t t' → TaskSense P us t → TaskSense P us t'
  later us t t' (on g r n) h = next _ _ g n h
  later us t t' over h = tt

  -- one unit has another sense
  senses-at : (d : Device) (us : Table) (n : ℕ) (s : Sense) (m : List ℕ) → ((i : ℕ) → UnitSense P (unit_at us i)) → P (unit_at us n).blocks s → TaskSense P us d.state.link.task
      → Senses P (world d (sensed_at us n s) m)
  unfolding with_sense
  senses-at d us n s m h q t = record {
    units = each_set (UnitSense P) us n _ h q;
    stage = subst (λ (k : ℕ). StageSense (P k) d.state.link.task.stage) (sym (same_blocks _ us (same_parts _ us (cleared-sensed us n s)) _)) t;
  }

  keeps : (w v : World) {e : Event} → Changed w e v → Senses P w → Senses P v
  unfolding dropped dropped_state on_wrapper begun begun_by begun_unit moved cut_short cut_state switched_to with_switch
  keeps w v (moves s p m t) h = record { units = h.units; stage = later w.units _ _ t h.stage }
  keeps w v (drops a c hi ho) h =
      record { units = λ n. subst (UnitSense P) (sym (unit-cleared w.units n)) (made.none _); stage = tt }
  keeps w v (begins c b l) h =
      senses-at _ w.units c.lun _ _ h.units (sensed-sense _ _ _ _ (plan-sense (P _) b _ _ (made.fails _)) (h.units _)) (first-sense _ _ _ _ (h.units _))
  keeps w v (turns x n) h =
      record {
        units = each_set (UnitSense P) w.units n _ h.units (h.units n);
        stage = subst (λ (k : ℕ). StageSense (P k) w.dev.state.link.task.stage) (sym (same_blocks _ w.units (made-switched w.units x n) _)) h.stage;
      }
  keeps w v (cuts m) h = senses-at _ w.units _ data_phase m h.units (made.phase _) tt

  pub keeps-senses : (w : World) → Senses P w → (e : Event) → Senses P (step w e).world
  keeps-senses w h e = keeps w _ (changes w e) h

  -- ---- what a making leaves

  as-made : (us : Table) (n : ℕ) → UnitSense P (unit_at (as_made us) n)
  as-made us n = subst (UnitSense P) (sym (unit-made us n)) (made.none _)

  pub fresh-senses : (k : Making) → IsMade k → Senses P (born k)
  unfolding fresh
  fresh-senses k ok = subst (Senses P) (sym (born-fresh k ok)) (record { units = as-made k.units; stage = tt })

  -- a refused one keeps the senses of its table
  pub made-senses : (k : Making) → ((n : ℕ) → UnitSense P (unit_at k.units n)) → Senses P (born k)
  unfolding born fresh no_device
  made-senses k h =
      by_making (λ (r : Made). Senses P (world r.dev r.units k.medium)) k
      (λ _. record { units = as-made k.units; stage = tt })
      (λ _. record { units = h; stage = tt })

  pub lived-senses : (k : Making) → Senses P (born k) → (es : List Event) → Senses P (lived k es).world
  unfolding lived
  lived-senses k h es = always (Senses P) (λ w e i. keeps-senses w i e) (born k) es h
