-- The laws of the write switch (specs/Switch.antt), and its examples, computed by the checker. Assumes nothing.
use Prim.Native.Nat.{ℕ, zero, suc, ◌+◌, ◌*◌}
use mathlib.Core.Path.{◌≡◌, refl, sym, ap, ◌∙◌}
use mathlib.Core.Bool.{Bool, true, false, true≢false}
use mathlib.Core.List.{List, [], ◌∷◌}
use lib.Dec.{eqb, ltb}
use lib.ListN.{length, take, drop, set}
use lib.Seq.{set-get_or}
use Rattle.std.specs.declared.result.Result.TheVariants.{Ok}
use Rattle.wire.specs.Choice.{when◌then◌else◌, ◌and◌}
use Rattle.wire.specs.Slices.{placed}
use Rattle.scsi.specs.Sense.{data_phase}
use Rattle.scsi.specs.declared.sense.Sense.{Sense}
use Rattle.usb.specs.Request.{request_of}
use Rattle.usb.specs.declared.request.Request.{Request}
use Rattle.machine.specs.declared.record.LogicalUnit.{LogicalUnit}
use Rattle.machine.specs.declared.record.Stage.{Stage}
use Rattle.machine.specs.declared.record.Stage.TheVariants.{Ready, DataOut, DataIn, ReplyIn, StatusDue}
use Rattle.machine.specs.declared.ask.Source.{Source}
use Rattle.machine.specs.declared.ask.Source.TheVariants as source
use Rattle.machine.specs.declared.ask.Asked.{Asked}
use Rattle.machine.specs.declared.ask.Asked.TheVariants.{Quiet, Packet}
use Rattle.machine.specs.declared.answer.Answer.TheVariants.{Ack, Refused}
use Rattle.machine.specs.declared.answer.Refusal.TheVariants as refusal
use Rattle.machine.specs.Units.{block_size, switch_fits, Table, unit_at, in_table, with_sense, with_switch, switched_to, as_made, medium_fits, part_of, with_part}
use Rattle.machine.specs.Fits.{is_ready}
use Rattle.machine.specs.World.{World, world, in_state, dropped, switched, Out, out, sends, UnitOut, unit_out, in_unit}
use Rattle.machine.specs.Control.{reset, perform}
use Rattle.machine.specs.Begin.{begun_unit}
use Rattle.machine.specs.Bulk.{packet_size, on_wrapper, cut_short, gathered, stored_block, on_data, out_stage, packet_out, ask, bytes_of, deliver, packet_in}
use Rattle.machine.specs.Machine.{Event, bus_reset, control, bulk_out, bulk_in, set_switch, lent, fitting, checks, check, in_order, effect, judged, step}
use Rattle.machine.specs.Sheet.{cbw, request_sense, on_blocks, configure, cleared as clearing, sent, command_in, command, hands, status, senses, outside_data, events, due, told, outcome, wanted, HoldOver, parts}
use Rattle.machine.specs.RefusedBlock.{no_data}
use Rattle.machine.specs.Switch.{is_switch, switched_out, SwitchLaws, turn, write, protected_data, fails, passes, ask_mode, mode, examples, ExamplesHold}
use Rattle.machine.proofs.Compute.{computes}
use Rattle.machine.proofs.StepLaws.{Changed, moves, drops, begins, turns, cuts, changes}
use Rattle.machine.proofs.Tables.{same_switch, cleared-sensed, cleared_again, cleared-switched, made-switched, same_length, same_total, same-part, same-with}
use Rattle.machine.proofs.Pairs.{pair_if, pair_judge, pair-perform}
use Rattle.machine.proofs.Fit.{fit_of, fits_of_lem}
use Rattle.machine.proofs.Reach.{turns as stays_fit}

-- ---- the event

sets : (w : World) (x n : ℕ)
    → step w (set_switch x n)
    ≡ (when fitting w and switch_fits x then (when in_table n w.units then out Ack (switched w x n) [] else out (Refused refusal.Unit) w []) else out (Refused refusal.Record) w [])
unfolding step checks check in_order effect judged lent when◌then◌else◌
sets w x n = go (fitting w and switch_fits x) (in_table n w.units)
  where
    go : (b c : Bool)
        → judged (check b (Refused refusal.Record) (check c (Refused refusal.Unit) (Ok tt))) w [] (out Ack (switched w x n) [])
        ≡ (when b then (when c then out Ack (switched w x n) [] else out (Refused refusal.Unit) w []) else out (Refused refusal.Record) w [])
    go true true = refl
    go true false = refl
    go false c = refl

-- ---- the others

kept : (w v : World) {e : Event} → Changed w e v → is_switch e ≡ false → (n : ℕ) → (unit_at v.units n).switch ≡ (unit_at w.units n).switch
unfolding dropped on_wrapper begun_unit is_switch
kept w v (moves s p m t) h n = refl
kept w v (drops a c hi ho) h n = same_switch _ w.units n (cleared_again w.units)
kept w v (begins x b l) h n = same_switch _ w.units n (cleared-sensed w.units _ _)
kept w v (turns x j) h n = absurd (true≢false h)
kept w v (cuts m) h n = same_switch _ w.units n (cleared-sensed w.units _ _)

-- ---- a change while a command is in hand

-- one unit put back, or with another sense, before or after the switch
set_same : (us : Table) (n x j : ℕ) → set (switched_to us x j) n (unit_at (switched_to us x j) n) ≡ switched_to (set us n (unit_at us n)) x j
set_same us n x j = set-get_or (switched_to us x j) n _ ∙ ap (λ (t : Table). switched_to t x j) (sym (set-get_or us n _))

set-sensed : (us : Table) (n x j : ℕ) (s : Sense)
    → set (switched_to us x j) n (with_sense (unit_at (switched_to us x j) n) s) ≡ switched_to (set us n (with_sense (unit_at us n) s)) x j
unfolding switched_to with_switch with_sense
set-sensed [] n x j s = refl
set-sensed (u ∷ us) zero x zero s = refl
set-sensed (u ∷ us) zero x (suc j) s = refl
set-sensed (u ∷ us) (suc n) x zero s = refl
set-sensed (u ∷ us) (suc n) x (suc j) s = ap (λ (t : Table). u ∷ t) (set-sensed us n x j s)

module _ (w : World) (x j : ℕ) where
  abbrev w' : World
  w' = switched w x j

  abbrev us : Table
  us = w.units

  -- the table with the switch set, which has the same parts
  abbrev us' : Table
  us' = switched_to us x j

  same-table : as_made us' ≡ as_made us
  same-table = made-switched us x j

  -- the outcome of w' is that of w, but for the switch
  record Over (o o' : Out) : Type 0 where
    same : o' ≡ switched_out o x j

  as_is : {o : Out} → Over o (switched_out o x j)
  as_is = record { same = refl }

  -- ---- control requests

  drops-over : (a : ℕ) (c hi ho : Bool) (b : List ℕ) → Over (out Ack (dropped w a c hi ho) b) (out Ack (dropped w' a c hi ho) b)
  unfolding dropped
  drops-over a c hi ho b = let e = cleared-switched us x j in record { same = cc }

  requests : (q : Request) (b : List ℕ) → Over (perform q w b) (perform q w' b)
  requests q b =
      pair-perform Over w.dev.identity w.dev.state w.dev.part w.dev.part us us' w.medium w.medium b (sym (same_length us' us same-table))
      (λ _ _ _ _. as_is) (λ a c hi ho. drops-over a c hi ho b) q

  -- ---- bulk packets

  module _ (n : ℕ) where
    abbrev u : LogicalUnit
    u = unit_at us n

    abbrev u' : LogicalUnit
    u' = unit_at us' n

    datas : (block left held : ℕ) (p : List ℕ) → Over (in_unit w n (on_data block left held p)) (in_unit w' n (on_data block left held p))
    unfolding in_unit on_data when◌then◌else◌
    datas block left held p = go (eqb (length p) packet_size) (ltb (held + packet_size) block_size)
      where
        m : List ℕ
        m = w.medium

        lift : World → LogicalUnit → UnitOut → Out
        lift v y r = out r.answer (world r.dev (set v.units n r.unit) (with_part y v.medium r.medium)) []

        there : Bool → Bool → LogicalUnit → UnitOut
        there c d y =
            when c
            then (when d
            then unit_out Ack (gathered w.dev block left held p) y (part_of y m)
            else unit_out Ack (stored_block w.dev block left) y (placed (part_of y m) (block_size * block) (placed w.dev.part held p)))
            else unit_out Ack (cut_short w.dev) (with_sense y data_phase) (part_of y m)

        go : (c d : Bool) → Over (lift w u (there c d u)) (lift w' u' (there c d u'))
        go true true = let a = set_same us n x j in let b = same-part us' us same-table n m in let e = same-with us' us same-table n m (part_of u m) in record { same = cc }
        go true false = let a = set_same us n x j in let b = same-part us' us same-table n m in let e = same-with us' us same-table n m (placed (part_of u m) (block_size * block) (placed w.dev.part held p)) in record { same = cc }
        go false d = let a = set-sensed us n x j data_phase in let b = same-part us' us same-table n m in let e = same-with us' us same-table n m (part_of u m) in record { same = cc }

  outs : (g : Stage) (p : List ℕ) → is_ready g ≡ false → Over (out_stage g w p) (out_stage g w' p)
  unfolding out_stage is_ready
  outs Ready p h = absurd (true≢false h)
  outs (DataOut block left held) p h = pair_if Over (eqb left 0) _ _ _ _ _ refl (λ _. as_is) (λ _. datas w.dev.state.link.task.lun block left held p)
  outs (DataIn place left) p h = as_is
  outs (ReplyIn reply place left) p h = as_is
  outs (StatusDue s) p h = as_is

  bytes_same : (s : Source) → bytes_of s w' ≡ bytes_of s w
  unfolding bytes_of
  bytes_same (source.Medium place n) = ap (λ (s : List ℕ). take n (drop place s)) (same-part us' us same-table _ w.medium)
  bytes_same (source.Reply reply place n) = refl
  bytes_same (source.Status csw) = refl

  asks : (a : Asked) (b : List ℕ) → Over (deliver a w b) (deliver a w' b)
  unfolding deliver
  asks (Quiet a) b = as_is
  asks (Packet s t) b = record { same = ap (λ (y : List ℕ). sends y (in_state w' t) b) (bytes_same s) }

  -- ---- one event

  checks-same : fitting w' ≡ fitting w → (e : Event) → is_switch e ≡ false → checks w' e ≡ checks w e
  unfolding checks medium_fits is_switch
  checks-same f bus_reset i = cc
  checks-same f (control s b) i = cc
  checks-same f (bulk_out p) i = let t = same_total us' us same-table in cc
  checks-same f (bulk_in b) i = let t = same_total us' us same-table in cc
  checks-same f (set_switch y n) i = absurd (true≢false i)

  effects : is_ready w.dev.state.link.task.stage ≡ false → (e : Event) → is_switch e ≡ false → Over (effect w e) (effect w' e)
  unfolding effect reset packet_out packet_in is_switch
  effects r bus_reset i = drops-over _ _ _ _ []
  effects r (control s b) i = requests (request_of s) b
  effects r (bulk_out p) i = pair_if Over w.dev.state.link.haltout _ _ _ _ _ refl (λ _. as_is) (λ _. outs _ p r)
  effects r (bulk_in b) i = asks (ask w.dev.state) b
  effects r (set_switch y n) i = absurd (true≢false i)

  late : fitting w ≡ true → switch_fits x ≡ true → is_ready w.dev.state.link.task.stage ≡ false → (e : Event) → is_switch e ≡ false → step w' e ≡ switched_out (step w e) x j
  late f h r e i =
      let same : fitting w' ≡ fitting w = fits_of_lem w' (stays_fit w (fit_of w f) x j h) ∙ sym f in
      (pair_judge Over w w' e e (sym (checks-same same e i)) (λ _ _. as_is) (λ _. effects r e i)).same

pub switch_laws : SwitchLaws
switch_laws = record { sets = sets; kept = λ w e. kept w _ (changes w e); later = λ w x n e f h r. late w x n f h r e }

-- ---- the examples, computed by the checker: a row to each `refl`

pub switch_examples_hold : ExamplesHold
unfolding computes cbw request_sense on_blocks configure clearing sent command_in command hands status senses outside_data no_data turn write protected_data fails passes ask_mode mode examples events due told outcome wanted HoldOver parts
switch_examples_hold = (refl, (refl, (refl, (refl, (refl, (refl, (refl, (refl, (refl, (refl, (refl, (refl, tt))))))))))))
